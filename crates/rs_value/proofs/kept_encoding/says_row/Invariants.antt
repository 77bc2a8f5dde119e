use Rattle.std.proofs.Common.{drop}
use Rattle.rs_value.specs.Row.{Row}
use Rattle.rs_value.specs.Encoding.{SaysRow}
use Rattle.rs_value.proofs.kept_encoding.says_row.Given as goal

abbrev pub invariant-loop-column : goal.invariant-loop-column
invariant-loop-column l = record {
  some : (row : Row) → SaysRow (drop l.column-index l.columns) l.rest row → (whole : Row) × SaysRow l.columns l.encoded whole;
  none : (row : Row) → SaysRow l.columns l.encoded row → (left : Row) × SaysRow (drop l.column-index l.columns) l.rest left;
}
