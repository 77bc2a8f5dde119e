-- Those that are seen of the cells so far.
use Rattle.std.proofs.Common.{◌≡◌, take, filter}
use Rattle.rs_records.specs.Listed.{listed, record_width}
use Rattle.rs_cell_versions.specs.Version.{sees}
use Rattle.rs_versioned.proofs.seeing.seen_by.Given as goal

abbrev pub invariant-loop-index : goal.invariant-loop-index
invariant-loop-index l = record {
  seen : listed l.seen ≡ filter (sees l.version) (take l.index (listed l.cells));
  width : record_width l.seen ≡ record_width l.cells;
}
