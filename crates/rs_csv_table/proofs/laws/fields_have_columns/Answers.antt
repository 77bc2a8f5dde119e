use Rattle.rs_csv_table.proofs.Greatest.{no_longer}
use Rattle.rs_csv_table.proofs.laws.fields_have_columns.Goals as goal

pub returns : goal.returns
returns c = no_longer
