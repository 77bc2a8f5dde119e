use Rattle.std.proofs.Common.{◌≡◌, [], length, map, drop}
use Rattle.rs_syntax.specs.View.{column_tree}
use Rattle.rs_checker.specs.Inner.{AllBelow}
use Rattle.rs_checker.proofs.ColumnLaws.{places_after}
use Rattle.rs_checker.proofs.columns.places_of.Given as goal

abbrev pub invariant-loop-name : goal.invariant-loop-name
invariant-loop-name l =
    (places_after (map column_tree l.columns.items) l.places.items (drop l.name-index l.names) ≡ places_after (map column_tree l.columns.items) [] l.names)
    × AllBelow (length l.columns.items) l.places.items
