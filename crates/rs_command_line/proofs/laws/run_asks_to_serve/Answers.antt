use Rattle.std.proofs.Common.{refl}
use Rattle.clap.proofs.OnLiterals.{clap_on_literals}
use Rattle.rs_command_line.proofs.laws.run_asks_to_serve.Goals as goal

pub returns : goal.returns
unfolding clap_on_literals
returns c = record { taken = λ name. refl; asks = λ name. refl }
