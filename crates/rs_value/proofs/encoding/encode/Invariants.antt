use Rattle.std.proofs.Common.{◌≡◌, ◌+◌, ◌++◌, List, ℕ, drop, take, length, map}
use Rattle.rs_value.specs.View.{datum_of}
use Rattle.rs_value.specs.Values.{IsRowOf}
use Rattle.rs_value.specs.Encoding.{row_width, SaysRow}
use Rattle.rs_value.proofs.encoding.encode.Given as goal

abbrev pub invariant-loop-i : goal.invariant-loop-i
invariant-loop-i l = record {
  same : length l.values ≡ length l.columns;
  width : length l.bytes ≡ row_width l.columns;
  place : l.at + row_width (drop l.i l.columns) ≡ row_width l.columns;
  typed : IsRowOf (drop l.i l.columns) (map datum_of (drop l.i l.values));
  says : (rest : List ℕ) → SaysRow (drop l.i l.columns) rest (map datum_of (drop l.i l.values)) → SaysRow l.columns (take l.at l.bytes ++ rest) (map datum_of l.values);
}
