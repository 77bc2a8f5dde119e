-- So many were seen so far, of those looked at.
use Rattle.std.proofs.Common.{◌≡◌, ◌≤◌, filter, length, take}
use Rattle.rs_records.specs.Listed.{listed}
use Rattle.rs_cell_versions.specs.Version.{sees}
use Rattle.rs_versioned.proofs.meant.count_seen.Given as goal

abbrev pub invariant-loop-place : goal.invariant-loop-place
invariant-loop-place l = record {
  counted : l.count ≡ length (filter (sees l.version) (take l.place (listed l.cells)));
  few : l.count ≤ l.place;
}
