use Rattle.rs_catalog_laws.proofs.OtherRows.{row_more}
use Rattle.rs_catalog_laws.proofs.rows.state_has_a_row_more.Goals as goal

pub returns : goal.returns
returns c = row_more
