use Rattle.rs_catalog_laws.proofs.OtherRows.{rows_less}
use Rattle.rs_catalog_laws.proofs.rows.state_has_rows_less.Goals as goal

pub returns : goal.returns
returns c = rows_less
