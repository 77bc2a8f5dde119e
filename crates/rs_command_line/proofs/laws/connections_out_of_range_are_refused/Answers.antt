use Rattle.std.proofs.Common.{refl}
use Rattle.clap.proofs.OnLiterals.{clap_on_literals}
use Rattle.rs_command_line.proofs.Values.{no_end, no_long, no_short}
use Rattle.rs_command_line.proofs.laws.connections_out_of_range_are_refused.Goals as goal

pub returns-clause-none : goal.returns-clause-none
unfolding clap_on_literals
returns-clause-none c = λ name file e. rw (no_end file e, no_long file e, no_short file e) refl

pub returns-clause-many : goal.returns-clause-many
unfolding clap_on_literals
returns-clause-many c = λ name file e. rw (no_end file e, no_long file e, no_short file e) refl
