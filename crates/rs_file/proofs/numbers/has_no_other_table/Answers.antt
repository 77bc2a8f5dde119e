-- Each number in turn.
use Rattle.std.proofs.Common.{◌≡◌, ◌∙◌, Some, map, slice_get, ap, arith}
use borrow.Author.Count.{below_more}
use Rattle.rs_catalog_pages.specs.Said.{said_tree}
use Rattle.rs_catalog_pages.specs.declared.items.StoredTable.{StoredTable}
use Rattle.rs_file.specs.Contents.{no_tree}
use Rattle.rs_page_owners.specs.Counts.{times}
use Rattle.rs_file.proofs.Numbering.{said_at}
use Rattle.rs_file.proofs.numbers.has_no_other_table.Goals as goal
use Rattle.rs_file.proofs.numbers.has_no_other_table.Goals.{else-not-is_no_tree-via-then-not-is_no_tree+else-tables_with-eq0, else-not-is_no_tree-via-else-not-is_no_tree}

pub loop-number-preserved : goal.loop-number-preserved
loop-number-preserved c =
    below_more (λ number. times (map (λ (table : StoredTable). table.number) c.args.tables.now) number ≡ 0 → slice_get (map said_tree c.args.trees.now) number ≡ Some no_tree)
    c.loop-number.number c.loop-number.invariant
    (λ none. elim c.else-not-is_no_tree.branch [
      | else-not-is_no_tree-via-then-not-is_no_tree+else-tables_with-eq0 w ↦ absurd (w.if-tables_with-eq0.false (w.tables_with.ensures ∙ none))
      | else-not-is_no_tree-via-else-not-is_no_tree w ↦
          said_at said_tree c.args.trees.now c.loop-number.number c.index-trees-number.result (omega arith) c.index-trees-number.is
          ∙ ap (λ tree. Some tree) (c.is_no_tree.ensures.0 w.if-not-is_no_tree.false)
    ])
