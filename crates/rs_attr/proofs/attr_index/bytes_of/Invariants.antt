use Rattle.std.proofs.Common.{◌≡◌, ◌+◌, ◌*◌, ◌≤◌, drop}
use Rattle.rs_value.specs.Encoding.{row_width}
use Rattle.rs_attr.proofs.attr_index.bytes_of.Given as goal

abbrev pub invariant-loop-column : goal.invariant-loop-column
invariant-loop-column l = record {
  sum : l.total + row_width (drop l.column-index l.columns) ≡ row_width l.columns;
  few : l.total ≤ 256 * l.column-index;
}
