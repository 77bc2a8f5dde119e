-- The cells of the deaths so far are listed.
use Rattle.std.proofs.Common.{◌≡◌, map, take}
use Rattle.rs_records.specs.Listed.{listed, record_width}
use Rattle.rs_cell_versions.specs.Dying.{cell_of}
use Rattle.rs_cell_versions.proofs.dying.by_death.Given as goal

abbrev pub invariant-loop-death : goal.invariant-loop-death
invariant-loop-death l = record {
  width : l.dead.width ≡ record_width l.cells;
  working : l.dead.working ≡ map (cell_of (listed l.cells)) (take l.death-index l.death-items);
}
