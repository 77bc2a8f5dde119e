-- The items so far that are of the table.
use Rattle.std.proofs.Common.{◌≡◌, length, map, take}
use Rattle.rs_catalog_pages.specs.Said.{said_index}
use Rattle.rs_file.specs.Slots.{ArePut, indexes_on, said_roots}
use Rattle.rs_file.proofs.directory.put_roots.Given as goal

abbrev pub invariant-loop-item : goal.invariant-loop-item
invariant-loop-item l = record {
  next : length (indexes_on (map said_index (take l.item-index l.items)) l.table) ≡ l.next;
  put : ArePut (indexes_on (map said_index (take l.item-index l.items)) l.table) (take l.next l.indexes) (said_roots l.fn.roots.items) (said_roots l.roots.items);
}
