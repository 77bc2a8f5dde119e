-- The cells so far are the front of the list, and no version from the oldest on sees any of them.
use Rattle.std.proofs.Common.{◌≡◌, ◌-◌, ◌≤◌, take}
use Rattle.rs_records.specs.Listed.{listed, record_width}
use Rattle.rs_cell_versions.specs.DeadCells.{part}
use Rattle.rs_cell_versions.proofs.Fronts.{AreClearable}
use Rattle.rs_cell_versions.proofs.dead.Dead.clearable.Given as goal

abbrev pub invariant-loop-index : goal.invariant-loop-index
invariant-loop-index l = record {
  width : record_width l.found ≡ l.self-inside.width;
  few : l.index - l.self-inside.first ≤ l.most;
  found : listed l.found ≡ take (l.index - l.self-inside.first) (part l.self-inside.first l.self-inside.end l.self-inside.width l.self-inside.bytes.items);
  clearable : AreClearable l.oldest (l.index - l.self-inside.first) (part l.self-inside.first l.self-inside.end l.self-inside.width l.self-inside.bytes.items);
}
