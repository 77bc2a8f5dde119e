use Rattle.std.proofs.Common.{refl}
use Rattle.clap.proofs.OnLiterals.{clap_on_literals}
use Rattle.rs_command_line.proofs.laws.dump_lacks_a_file.Goals as goal

pub returns : goal.returns
unfolding clap_on_literals
returns c = λ name. refl
