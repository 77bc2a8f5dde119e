-- The indexes of the tables so far have their roots.
use Rattle.std.proofs.Common.{map, take}
use Rattle.rs_catalog_pages.specs.Said.{said_index, said_table}
use Rattle.rs_file.specs.Slots.{AreRoots, said_roots}
use Rattle.rs_file.proofs.directory.roots_of.Given as goal

abbrev pub invariant-loop-place : goal.invariant-loop-place
invariant-loop-place l = AreRoots (map said_index l.indexes) (take l.place (map said_table l.items)) (take l.place l.tables) (said_roots l.roots.items)
