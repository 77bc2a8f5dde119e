-- The tests together.
use Rattle.std.proofs.Common.{◌≡◌, ◌≤◌, true, length, sym, ◌∙◌, arith}
use Rattle.std.specs.Prelude.{string_bytes}
use Rattle.std.proofs.lemmas.Bool.{false≢true, leb-true}
use Rattle.rs_machine.specs.declared.limits.TheConstants.{TABLES}
use Rattle.rs_catalog_pages.specs.Items.{TableItem}
use Rattle.rs_catalog_pages.specs.Said.{said_table}
use Rattle.rs_catalog_pages.specs.declared.items.StoredTable.{StoredTable}
use Rattle.rs_catalog_meaning.proofs.Each.{few_said, said_few}
use Rattle.rs_catalog_meaning.proofs.NameOrder.{in_order, rises_said, said_rises}
use Rattle.rs_catalog_meaning.proofs.tables.are_tables.Goals as goal
use Rattle.rs_catalog_meaning.proofs.tables.are_tables.Goals.{then-tables-le-TABLES, else-tables-le-TABLES}

pub returns-then-are_in_order : goal.returns-then-are_in_order
returns-then-are_in_order c =
    let tables = c.args.tables.now in
    let front : (length tables ≤ TABLES) × (in_order (λ (table : StoredTable). string_bytes table.name) tables ≡ true) =
    elim c.if-tables-le-TABLES.branch [
      | then-tables-le-TABLES w ↦ (w.if-tables-le-TABLES.true, w.are_in_order.ensures.0 (sym w.value-is ∙ c.if-are_in_order.true))
      | else-tables-le-TABLES w ↦ absurd (omega (arith, w.if-tables-le-TABLES.false, leb-true (length tables) TABLES (sym w.value-is ∙ c.if-are_in_order.true)))
    ] in (
      λ e. record {
        in_order = rises_said said_table (λ (table : TableItem). table.name) tables front.1;
        each = c.is_each_table.ensures.0 e;
        few = few_said said_table tables TABLES front.0;
      },
      λ are. c.is_each_table.ensures.1 are.each,
    )

pub returns-else-are_in_order : goal.returns-else-are_in_order
returns-else-are_in_order c =
    let tables = c.args.tables.now in (
      λ e. absurd (false≢true (sym c.if-are_in_order.false ∙ e)),
      λ are. elim c.if-tables-le-TABLES.branch [
        | then-tables-le-TABLES w ↦ w.value-is ∙ w.are_in_order.ensures.1 (said_rises said_table (λ (table : TableItem). table.name) tables are.in_order)
        | else-tables-le-TABLES w ↦ absurd (omega (arith, w.if-tables-le-TABLES.false, said_few said_table tables TABLES are.few))
      ],
    )
