-- Cell after cell.
use Rattle.rs_csv_answers.proofs.Cells.{record_is}
use Rattle.rs_csv_answers.proofs.laws.record_says_what_the_row_says.Goals as goal

pub returns : goal.returns
returns c = record_is
