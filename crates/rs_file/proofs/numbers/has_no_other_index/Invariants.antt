-- There is no root under a number so far that no index has.
use Rattle.std.proofs.Common.{◌≡◌, ◌<◌, ℕ, Some, map, slice_get}
use Rattle.rs_catalog_pages.specs.declared.directory_items.StoredRoot.{StoredRoot}
use Rattle.rs_page_owners.specs.Counts.{times}
use Rattle.rs_file.proofs.numbers.has_no_other_index.Given as goal

abbrev pub invariant-loop-number : goal.invariant-loop-number
invariant-loop-number l = (number : ℕ) → number < l.number → times (map (λ index. index.number) l.indexes) number ≡ 0
    → slice_get (map (λ (root : StoredRoot). root.root) l.roots) number ≡ Some 0
