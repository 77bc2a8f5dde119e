-- Runs are placed, and what does not overlap the stretch holds nothing there.
use Rattle.rs_table_reads.proofs.Within.{none_left_out, rows_within}
use Rattle.rs_table_reads.proofs.laws.spans_within_hold_what_the_table_holds.Goals as goal

pub returns-clause-placed : goal.returns-clause-placed
returns-clause-placed c = none_left_out

pub returns-clause-rows : goal.returns-clause-rows
returns-clause-rows c = rows_within
