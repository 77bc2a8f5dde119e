use Rattle.std.proofs.Common.{◌≡◌, ◌++◌, drop, map}
use Rattle.arrayvec.specs.ArrayVec.{array_vec_len}
use Rattle.rs_value.specs.Row.{Row}
use Rattle.rs_value.specs.View.{datum_of}
use Rattle.rs_value.specs.Encoding.{SaysRow}
use Rattle.rs_value.proofs.encoding.decode.Given as goal

abbrev pub invariant-loop-column : goal.invariant-loop-column
invariant-loop-column l = record {
  len : array_vec_len l.tuple ≡ l.column-index;
  some : (row : Row) → SaysRow (drop l.column-index l.columns) l.rest row → SaysRow l.columns l.bytes (map datum_of l.tuple.items ++ row);
  none : (row : Row) → SaysRow l.columns l.bytes row → (left : Row) × SaysRow (drop l.column-index l.columns) l.rest left;
}
