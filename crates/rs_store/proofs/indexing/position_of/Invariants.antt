-- Those that were counted and those that come are all.
use Rattle.std.proofs.Common.{◌≡◌, ◌≤◌, ◌+◌, drop, map}
use Rattle.rs_catalog_pages.specs.Said.{said_index}
use Rattle.rs_store.specs.Indexing.{position_among}
use Rattle.rs_store.proofs.indexing.position_of.Given as goal

abbrev pub invariant-loop-index : goal.invariant-loop-index
invariant-loop-index l = record {
  all : l.position + position_among l.number l.table (map said_index (drop l.index-index l.indexes)) ≡ position_among l.number l.table (map said_index l.indexes);
  few : l.position ≤ l.index-index;
}
