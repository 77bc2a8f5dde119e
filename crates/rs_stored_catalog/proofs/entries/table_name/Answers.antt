use Rattle.std.proofs.Common.{◌≤◌, length, map, refl, sym, ap, subst, ◌∙◌}
use Rattle.std.proofs.lemmas.List.{drop_all}
use Rattle.rs_catalog_meaning.specs.Meaning.{IsTable}
use Rattle.rs_catalog_meaning.specs.Stating.{table_with}
use Rattle.rs_catalog_pages.specs.Said.{said_table}
use Rattle.rs_grammar.specs.declared.kind.TheConstants.{NAME_BYTES}
use Rattle.rs_stored_catalog.proofs.Entering.{each_said}
use Rattle.rs_stored_catalog.proofs.Found.{table_found, table_skipped}
use Rattle.rs_stored_catalog.proofs.entries.table_name.Goals as goal

pub loop-table-init : goal.loop-table-init
loop-table-init c = refl

pub name_of-requires : goal.name_of-requires
name_of-requires c =
    let is = each_said said_table IsTable c.args.tables.now c.loop-table.table-index c.table-item.result c.loop-table-test.true c.table-item.is c.requires in
    subst (λ text. length text ≤ NAME_BYTES) (sym c.as_str.ensures.value) is.named.short

pub returns-then-has_column : goal.returns-then-has_column
returns-then-has_column c =
    c.name_of.ensures ∙ c.as_str.ensures.value
    ∙ sym (c.loop-table.invariant
    ∙ table_found c.args.tables.now c.loop-table.table-index c.table-item.result c.args.number c.args.column c.loop-table-test.true c.table-item.is (sym c.has_column.ensures ∙ c.if-has_column.true))

pub loop-table-preserved : goal.loop-table-preserved
loop-table-preserved c =
    c.loop-table.invariant
    ∙ table_skipped c.args.tables.now c.loop-table.table-index c.table-item.result c.args.number c.args.column c.loop-table-test.true c.table-item.is (sym c.has_column.ensures ∙ c.if-has_column.false)

pub returns : goal.returns
returns c = c.new.ensures ∙ sym (c.loop-table.invariant ∙ ap (λ l. table_with (map said_table l) c.args.number c.args.column) (drop_all _ _ c.loop-table-test.false))
