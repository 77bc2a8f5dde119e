-- There is no tree under a number so far that no table has.
use Rattle.std.proofs.Common.{◌≡◌, ◌<◌, ℕ, Some, map, slice_get}
use Rattle.rs_catalog_pages.specs.Said.{said_tree}
use Rattle.rs_file.specs.Contents.{no_tree}
use Rattle.rs_page_owners.specs.Counts.{times}
use Rattle.rs_file.proofs.numbers.has_no_other_table.Given as goal

abbrev pub invariant-loop-number : goal.invariant-loop-number
invariant-loop-number l = (number : ℕ) → number < l.number → times (map (λ table. table.number) l.tables) number ≡ 0
    → slice_get (map said_tree l.trees) number ≡ Some no_tree
