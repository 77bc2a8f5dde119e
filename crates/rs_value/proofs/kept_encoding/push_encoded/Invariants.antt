use Rattle.std.proofs.Common.{◌≡◌, drop, ◌++◌, List, ℕ}
use Rattle.rs_value.specs.Row.{Row}
use Rattle.rs_value.specs.Encoding.{SaysRow}
use Rattle.rs_value.specs.Kept.{Keeps}
use Rattle.rs_value.specs.Values.{IsRowOf}
use Rattle.rs_value.proofs.kept_encoding.push_encoded.Given as goal

abbrev pub invariant-loop-column : goal.invariant-loop-column
invariant-loop-column l = record {
  left : (row : Row) → Keeps l.kept row → Keeps l.rest (drop l.column-index row);
  typed : (row : Row) × Keeps l.kept row × IsRowOf l.columns row;
  says : (row : Row) → Keeps l.kept row → (said : List ℕ) × (l.bytes.items ≡ l.fn.bytes.items ++ said)
      × ((rest : List ℕ) → SaysRow (drop l.column-index l.columns) rest (drop l.column-index row) → SaysRow l.columns (said ++ rest) row);
}
