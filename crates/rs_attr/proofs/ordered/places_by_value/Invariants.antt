-- The places of the cells so far.
use Rattle.std.proofs.Common.{◌≡◌, ◌<◌, length, map, take}
use Rattle.std.specs.List.{AllByRecursion}
use Rattle.rs_attr.proofs.Reordered.{cell_at}
use Rattle.rs_records.specs.Listed.{listed}
use Rattle.rs_attr.proofs.ordered.places_by_value.Given as goal

abbrev pub invariant-loop-place : goal.invariant-loop-place
invariant-loop-place l = record {
  each : AllByRecursion (λ value. value.1 < length (listed l.cells)) l.places.items;
  are : map (cell_at (listed l.cells)) l.places.items ≡ take l.place (listed l.cells);
}
