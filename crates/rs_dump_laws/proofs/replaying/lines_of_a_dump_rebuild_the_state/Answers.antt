use Rattle.rs_machine.specs.State.{fresh}
use Rattle.rs_dump_laws.specs.Dump.{rebuilt}
use Rattle.std.specs.Prelude.{length}
use Rattle.rs_dump_laws.proofs.Answers.{all_answered, can_answer}
use Rattle.rs_dump_laws.proofs.Rebuilding.{rebuilds}
use Rattle.rs_dump_laws.proofs.replaying.lines_of_a_dump_rebuild_the_state.Goals as goal

pub returns-clause-can : goal.returns-clause-can
returns-clause-can c = λ texts state commands lawful pass room dump said old begins.
    can_answer commands old fresh (rebuilt state (length commands)) begins (rebuilds texts state commands lawful pass room dump) said

pub returns-clause-all : goal.returns-clause-all
returns-clause-all c = λ texts state commands lawful pass room dump said old new answers begins answered none.
    all_answered c.line_has_one_answer.ensures commands old fresh (rebuilt state (length commands)) answers new begins (rebuilds texts state commands lawful pass room dump) said answered none
