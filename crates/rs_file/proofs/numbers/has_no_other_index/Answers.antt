-- Each number in turn.
use Rattle.std.proofs.Common.{◌≡◌, ◌∙◌, ℕ, Some, map, slice_get, sym, ap, arith}
use borrow.Author.Count.{below_more}
use Rattle.rs_catalog_pages.specs.declared.directory_items.StoredRoot.{StoredRoot}
use Rattle.rs_catalog_pages.specs.declared.items.StoredIndex.{StoredIndex}
use Rattle.rs_page_owners.specs.Counts.{times}
use Rattle.rs_file.proofs.Numbering.{said_at}
use Rattle.rs_file.proofs.numbers.has_no_other_index.Goals as goal
use Rattle.rs_file.proofs.numbers.has_no_other_index.Goals.{else-number-ne0-via-then-number-ne0+else-indexes_with-eq0, else-number-ne0-via-else-number-ne0}

pub loop-number-preserved : goal.loop-number-preserved
loop-number-preserved c =
    below_more (λ number. times (map (λ (index : StoredIndex). index.number) c.args.indexes.now) number ≡ 0 → slice_get (map (λ (root : StoredRoot). root.root) c.args.roots.now) number ≡ Some 0)
    c.loop-number.number c.loop-number.invariant
    (λ none. elim c.else-number-ne0.branch [
      | else-number-ne0-via-then-number-ne0+else-indexes_with-eq0 w ↦ absurd (w.if-indexes_with-eq0.false (w.indexes_with.ensures ∙ none))
      | else-number-ne0-via-else-number-ne0 w ↦
          said_at (λ (root : StoredRoot). root.root) c.args.roots.now c.loop-number.number c.index-roots-number.result (omega arith) c.index-roots-number.is
          ∙ ap (λ (root : ℕ). Some root) (ap (λ (root : StoredRoot). root.root) c.index-roots-number.is ∙ sym c.number.ensures ∙ w.if-number-ne0.false)
    ])
