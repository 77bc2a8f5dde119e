use Rattle.std.proofs.Common.{◌≡◌, length, map, take}
use Rattle.rs_facts.specs.Query.{column_at}
use Rattle.rs_syntax.specs.View.{column_tree}
use Rattle.rs_checker.proofs.columns.chosen.Given as goal

abbrev pub invariant-loop-place : goal.invariant-loop-place
invariant-loop-place l = (length l.chosen.items ≡ l.place-index) × (map column_tree l.chosen.items ≡ map (column_at (map column_tree l.columns)) (take l.place-index l.places))
