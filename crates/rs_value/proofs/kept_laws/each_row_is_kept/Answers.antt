use Rattle.rs_value.proofs.KeptRows.{row_kept}
use Rattle.rs_value.proofs.kept_laws.each_row_is_kept.Goals as goal

pub returns : goal.returns
returns c = row_kept
