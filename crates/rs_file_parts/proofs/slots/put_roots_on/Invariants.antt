-- The items so far that are of the table.
use Rattle.std.proofs.Common.{◌≡◌, length, map, take}
use Rattle.rs_catalog_pages.specs.Said.{said_index}
use Rattle.rs_file.specs.Slots.{indexes_on}
use Rattle.rs_file_parts.specs.Slots.{PutsRootsOn}
use Rattle.rs_file_parts.proofs.slots.put_roots_on.Given as goal

abbrev pub invariant-loop-item : goal.invariant-loop-item
invariant-loop-item l = record {
  next : length (indexes_on (map said_index (take l.item-index l.items)) l.table) ≡ l.next;
  put : PutsRootsOn (indexes_on (map said_index (take l.item-index l.items)) l.table) (take l.next l.indexes) l.fn.page.bytes l.page.bytes;
}
