-- Rows and columns that are not wide.
use Rattle.rs_file.proofs.Widths.{index_fits, table_fits}
use Rattle.rs_file.proofs.laws.tables_of_lines_fit_pages.Goals as goal

pub returns-clause-table : goal.returns-clause-table
returns-clause-table c = table_fits

pub returns-clause-index : goal.returns-clause-index
returns-clause-index c = index_fits
