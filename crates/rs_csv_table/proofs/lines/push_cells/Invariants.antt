use Rattle.std.proofs.Common.{◌≡◌, ◌++◌, length}
use Rattle.rs_csv_table.specs.Records.{fields_of}
use Rattle.rs_csv_table.specs.Tables.{cells_of}
use Rattle.rs_csv_table.proofs.lines.push_cells.Given as goal

abbrev pub invariant-loop-field : goal.invariant-loop-field
invariant-loop-field l = l.text.items ++ cells_of (fields_of l.left) l.columns_left ≡ l.fn.text.items ++ cells_of (fields_of l.record) l.columns

abbrev pub decreases-loop-field : goal.decreases-loop-field
decreases-loop-field l = length l.left
