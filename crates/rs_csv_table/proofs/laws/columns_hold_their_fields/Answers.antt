use Rattle.rs_csv_table.proofs.Greatest.{no_wider}
use Rattle.rs_csv_table.proofs.laws.columns_hold_their_fields.Goals as goal

pub returns : goal.returns
returns c = no_wider
