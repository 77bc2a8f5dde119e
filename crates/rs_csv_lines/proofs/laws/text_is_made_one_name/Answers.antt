use Rattle.rs_csv_lines.proofs.Named.{made_unique}
use Rattle.rs_csv_lines.proofs.laws.text_is_made_one_name.Goals as goal

pub returns : goal.returns
returns c text name other first second = made_unique text name other first second
