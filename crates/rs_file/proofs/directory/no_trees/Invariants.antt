-- The slots so far say that there is no tree.
use Rattle.std.proofs.Common.{◌≡◌, length}
use Rattle.std.specs.List.{AllByRecursion}
use Rattle.rs_catalog_pages.specs.Said.{said_tree}
use Rattle.rs_file.specs.Contents.{no_tree}
use Rattle.rs_file.proofs.directory.no_trees.Given as goal

abbrev pub invariant-loop : goal.invariant-loop
invariant-loop l = record { many : length l.trees.items ≡ l.counter; none : AllByRecursion (λ tree. said_tree tree ≡ no_tree) l.trees.items }
