-- The tables so far have their trees.
use Rattle.std.proofs.Common.{map, take}
use Rattle.rs_catalog_pages.specs.Said.{said_table}
use Rattle.rs_file_parts.specs.Slots.{PutsTrees}
use Rattle.rs_file_parts.proofs.slots.put_trees.Given as goal

abbrev pub invariant-loop-place : goal.invariant-loop-place
invariant-loop-place l = PutsTrees (map said_table l.items) l.tables (take l.place (map said_table l.items)) (take l.place l.tables) l.fn.page.bytes l.page.bytes
