-- The tests together.
use Rattle.std.proofs.Common.{◌≡◌, ◌≤◌, true, length, sym, ◌∙◌, arith}
use Rattle.std.specs.Prelude.{string_bytes}
use Rattle.std.proofs.lemmas.Bool.{false≢true, leb-true}
use Rattle.rs_catalog_pages.specs.declared.directory_items.TheConstants.{INDEXES}
use Rattle.rs_catalog_pages.specs.Items.{IndexItem}
use Rattle.rs_catalog_pages.specs.Said.{said_index}
use Rattle.rs_catalog_pages.specs.declared.items.StoredIndex.{StoredIndex}
use Rattle.rs_catalog_meaning.proofs.Each.{few_said, said_few}
use Rattle.rs_catalog_meaning.proofs.NameOrder.{in_order, rises_said, said_rises}
use Rattle.rs_catalog_meaning.proofs.tables.are_indexes.Goals as goal
use Rattle.rs_catalog_meaning.proofs.tables.are_indexes.Goals.{then-indexes, else-indexes}

pub returns-then-are_in_order : goal.returns-then-are_in_order
returns-then-are_in_order c =
    let indexes = c.args.indexes.now in
    let front : (length indexes ≤ INDEXES) × (in_order (λ (index : StoredIndex). string_bytes index.name) indexes ≡ true) =
    elim c.if-indexes.branch [
      | then-indexes w ↦ (w.if-indexes.true, w.are_in_order.ensures.0 (sym w.value-is ∙ c.if-are_in_order.true))
      | else-indexes w ↦ absurd (omega (arith, w.if-indexes.false, leb-true (length indexes) INDEXES (sym w.value-is ∙ c.if-are_in_order.true)))
    ] in (
      λ e. record {
        in_order = rises_said said_index (λ (index : IndexItem). index.name) indexes front.1;
        each = c.is_each_index.ensures.0 e;
        few = few_said said_index indexes INDEXES front.0;
      },
      λ are. c.is_each_index.ensures.1 are.each,
    )

pub returns-else-are_in_order : goal.returns-else-are_in_order
returns-else-are_in_order c =
    let indexes = c.args.indexes.now in (
      λ e. absurd (false≢true (sym c.if-are_in_order.false ∙ e)),
      λ are. elim c.if-indexes.branch [
        | then-indexes w ↦ w.value-is ∙ w.are_in_order.ensures.1 (said_rises said_index (λ (index : IndexItem). index.name) indexes are.in_order)
        | else-indexes w ↦ absurd (omega (arith, w.if-indexes.false, said_few said_index indexes INDEXES are.few))
      ],
    )
