-- The values from a column on are put, each after a comma, and the bytes that are left say those before it.
use Rattle.std.proofs.Common.{◌≡◌, ◌≤◌, ◌-◌, ◌++◌, drop, length, map, take}
use Rattle.rs_value.specs.Encoding.{SaysRow}
use Rattle.rs_value.specs.Row.{Row}
use Rattle.rs_value.specs.Text.{datum_text}
use Rattle.rs_dump_lines.specs.Texts.{more_texts}
use Rattle.rs_dump_lines.proofs.rows.put_values_before.Given as goal

abbrev pub invariant-loop-left : goal.invariant-loop-left
invariant-loop-left l = record {
  begins : l.at ≤ l.fn.end;
  few : l.left ≤ length l.columns;
  length : length l.bytes ≡ length l.fn.bytes;
  says : (said : Row) → SaysRow l.columns l.values said → SaysRow (take l.left l.columns) l.rest (take l.left said);
  put : (said : Row) → SaysRow l.columns l.values said → drop l.at l.bytes ≡ more_texts (map datum_text (drop l.left said)) ++ drop l.fn.end l.fn.bytes;
}

abbrev pub decreases-loop-left : goal.decreases-loop-left
decreases-loop-left l = l.left - 1
