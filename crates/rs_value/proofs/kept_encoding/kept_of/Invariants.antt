use Rattle.std.proofs.Common.{drop, ◌++◌}
use Rattle.rs_value.specs.Row.{Row}
use Rattle.rs_value.specs.Encoding.{SaysRow}
use Rattle.rs_value.specs.Kept.{Keeps}
use Rattle.rs_value.proofs.kept_encoding.kept_of.Given as goal

abbrev pub invariant-loop-column : goal.invariant-loop-column
invariant-loop-column l = record {
  some : (front : Row) × Keeps l.bytes.items front × ((row : Row) → SaysRow (drop l.column-index l.columns) l.rest row → SaysRow l.columns l.encoded (front ++ row));
  none : (row : Row) → SaysRow l.columns l.encoded row → (left : Row) × SaysRow (drop l.column-index l.columns) l.rest left;
}
