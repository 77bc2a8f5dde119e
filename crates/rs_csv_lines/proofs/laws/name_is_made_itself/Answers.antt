use Rattle.rs_csv_lines.proofs.Named.{made_itself}
use Rattle.rs_csv_lines.proofs.laws.name_is_made_itself.Goals as goal

pub returns : goal.returns
returns c name is = made_itself name is
