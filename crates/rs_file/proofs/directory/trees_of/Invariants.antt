-- The tables so far have their trees.
use Rattle.std.proofs.Common.{map, take}
use Rattle.rs_catalog_pages.specs.Said.{said_table, said_tree}
use Rattle.rs_file.specs.Slots.{AreTrees}
use Rattle.rs_file.proofs.directory.trees_of.Given as goal

abbrev pub invariant-loop-place : goal.invariant-loop-place
invariant-loop-place l = AreTrees (take l.place (map said_table l.items)) (take l.place l.tables) (map said_tree l.trees.items)
