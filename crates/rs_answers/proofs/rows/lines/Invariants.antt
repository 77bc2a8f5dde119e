use Rattle.std.proofs.Common.{◌≡◌, take}
use Rattle.rs_facts.specs.Query.{Query}
use Rattle.rs_machine.specs.State.{State}
use Rattle.rs_serve.specs.ReplyView.{rows_of}
use Rattle.rs_exec.specs.Leaving.{LeavesBehind}
use Rattle.rs_answers.specs.Plans.{IsPlanFor}
use Rattle.rs_answers.specs.Standing.{StandsAt}
use Rattle.rs_answers.proofs.QueryAnswers.{lines_so_far}
use Rattle.rs_answers.proofs.rows.lines.Given as goal

abbrev pub invariant-loop-named : goal.invariant-loop-named
invariant-loop-named g l = record {
  leaves : LeavesBehind g.E.Source l.initial.e l.e;
  printed : (query : Query) → IsPlanFor (g.E.InMemory.definitions l.initial.e) query l.asked.plan.now → (state : State) → StandsAt g.E.Source.is g.E.InMemory.definitions g.E.InMemory.held_referents l.asked.version l.initial.e state
      → rows_of l.rows.items ≡ lines_so_far state query l.method (take l.named-index l.named-items);
}
