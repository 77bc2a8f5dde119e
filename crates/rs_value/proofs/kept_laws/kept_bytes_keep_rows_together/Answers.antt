use Rattle.rs_value.proofs.KeptRows.{keeps_both}
use Rattle.rs_value.proofs.kept_laws.kept_bytes_keep_rows_together.Goals as goal

pub returns : goal.returns
returns c = keeps_both
