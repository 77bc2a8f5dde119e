-- The indexes of the tables so far have their roots.
use Rattle.std.proofs.Common.{map, take}
use Rattle.rs_catalog_pages.specs.Said.{said_index, said_table}
use Rattle.rs_file_parts.specs.Slots.{PutsRoots}
use Rattle.rs_file_parts.proofs.slots.put_roots.Given as goal

abbrev pub invariant-loop-place : goal.invariant-loop-place
invariant-loop-place l = PutsRoots (map said_index l.indexes) (map said_table l.items) l.tables (take l.place (map said_table l.items)) (take l.place l.tables) l.fn.page.bytes l.page.bytes
