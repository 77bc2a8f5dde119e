-- The entries of the cells at the places so far.
use Rattle.std.proofs.Common.{◌≡◌, ◌+◌, ◌++◌, drop, length, map, take}
use Rattle.rs_attr.proofs.Reordered.{cell_at}
use Rattle.rs_records.specs.Listed.{listed, record_width}
use Rattle.rs_attr.proofs.ordered.entries_by_value.Given as goal

abbrev pub invariant-loop-value : goal.invariant-loop-value
invariant-loop-value l = record {
  width : record_width l.entries ≡ l.wide + record_width l.cells;
  long : length l.entry.items ≡ l.wide + record_width l.cells;
  are : listed l.entries ≡ map (λ cell. take l.wide (drop l.start cell) ++ cell) (map (cell_at (listed l.cells)) (take l.value-index l.value-items));
}
