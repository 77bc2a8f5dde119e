use Rattle.std.proofs.Common.{map, sym, ap, ◌∙◌}
use Rattle.std.proofs.lemmas.List.{take_all}
use Rattle.std.proofs.lemmas.Simd.{map-map}
use Rattle.rs_catalog_meaning.specs.Meaning.{column_of}
use Rattle.rs_catalog_pages.specs.Said.{said_column}
use Rattle.rs_catalog_pages.specs.declared.items.StoredColumn.{StoredColumn}
use Rattle.rs_syntax.specs.View.{column_tree}
use Rattle.rs_stored_catalog.proofs.Entering.{mapped-more}
use Rattle.rs_stored_catalog.proofs.Found.{column_named}
use Rattle.rs_stored_catalog.proofs.entries.columns.Goals as goal

pub loop-column-init : goal.loop-column-init
loop-column-init c = ap (map column_tree) c.in_ok-made.ensures.items

pub column_definition-requires : goal.column_definition-requires
column_definition-requires c = column_named c.args.columns.now c.loop-column.column-index c.column-item.result c.loop-column-test.true (sym c.column-item.is) c.requires

pub loop-column-preserved : goal.loop-column-preserved
loop-column-preserved c =
    ap (map column_tree) c.in_ok-push.ensures.items
    ∙ mapped-more column_tree (λ (column : StoredColumn). column_of (said_column column)) c.loop-column.made.items c.column_definition.result c.args.columns.now c.loop-column.column-index c.column-item.result
    c.loop-column-test.true c.column-item.is c.loop-column.invariant c.column_definition.ensures

pub returns : goal.returns
returns c =
    c.loop-column.invariant ∙ ap (map (λ (column : StoredColumn). column_of (said_column column))) (take_all _ _ c.loop-column-test.false)
    ∙ sym (map-map column_of said_column c.args.columns.now)
