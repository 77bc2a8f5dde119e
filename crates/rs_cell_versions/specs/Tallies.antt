-- A count of cells as what its contracts say of it.
use Rattle.rs_records.specs.Listed.{listed}
use Rattle.rs_cell_versions.specs.Looking.{Tallied}
use Rattle.rs_cell_versions.specs.declared.tally.Tally.{Tally}

abbrev pub tallied : Tally → Tallied
tallied tally = record {
  accepted = tally.accepted;
  living_left = tally.living_left;
  garbage_left = tally.garbage_left;
  dead = listed tally.dead;
}
