use Rattle.std.proofs.Common.{refl}
use Rattle.clap.proofs.OnLiterals.{clap_on_literals}
use Rattle.rs_command_line.proofs.Values.{no_end, no_long, no_short}
use Rattle.rs_command_line.proofs.laws.dump_asks_as_it_is_told.Goals as goal

pub returns-clause-taken : goal.returns-clause-taken
unfolding clap_on_literals
returns-clause-taken c = λ name file table e f. rw (no_end file e, no_long file e, no_short file e, no_end table f, no_long table f, no_short table f) refl

pub returns-clause-asks : goal.returns-clause-asks
unfolding clap_on_literals
returns-clause-asks c = λ name file table e f. rw (no_end file e, no_long file e, no_short file e, no_end table f, no_long table f, no_short table f) refl
