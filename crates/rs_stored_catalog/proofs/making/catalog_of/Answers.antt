use Rattle.std.proofs.Common.{List, map, sym, ap, subst, ◌∙◌}
use Rattle.std.specs.List.{AllByRecursion}
use Rattle.rs_catalog.specs.Definitions as catalog
use Rattle.rs_catalog.specs.Definitions.{Definitions, IsColumnOf}
use Rattle.rs_catalog.specs.Names.{map_values}
use Rattle.rs_catalog_meaning.specs.Stating.{named_alignment, table_with}
use Rattle.rs_catalog_pages.specs.Items.{AlignmentItem, IndexItem}
use Rattle.rs_catalog_pages.specs.Said.{said_alignment, said_catalogue, said_index, said_route, said_table}
use Rattle.rs_catalog_pages.specs.declared.items.StoredAlignment.{StoredAlignment}
use Rattle.rs_catalog_pages.specs.declared.items.StoredIndex.{StoredIndex}
use Rattle.rs_catalog_pages.specs.declared.items.StoredRoute.{StoredRoute}
use Rattle.rs_catalog_pages.specs.declared.items.StoredTable.{StoredTable}
use Rattle.rs_facts.specs.Fact.{Names}
use Rattle.rs_facts.specs.WellFormed.{ArePiecesOn}
use Rattle.rs_file_meaning.specs.States.{routes_named, tables_named}
use Rattle.rs_stored_catalog.proofs.Found.{each_column_there, each_lies}
use Rattle.rs_stored_catalog.proofs.making.catalog_of.Goals as goal

abbrev AreOf : Names catalog.TableItem → List StoredTable → List StoredIndex → Type 0
AreOf named tables indexes = AllByRecursion (λ (index : IndexItem). IsColumnOf named (table_with (map said_table tables) index.table index.column) index.table index.column) (map said_index indexes)

abbrev Lie : Names catalog.RouteItem → List StoredRoute → List StoredAlignment → Type 0
Lie named routes alignments =
    AllByRecursion (λ (alignment : AlignmentItem). ArePiecesOn (map_values (λ (item : catalog.RouteItem). item.ends) named) (named_alignment (map said_route routes) alignment).1) (map said_alignment alignments)

pub enter_indexes-requires-clause-of : goal.enter_indexes-requires-clause-of
enter_indexes-requires-clause-of c =
    let catalogue = said_catalogue c.args.stored.now in
    let all = each_column_there catalogue c.requires.meant (c.listed_definitions_are_a_catalogues.ensures.are catalogue c.requires.meant c.requires.once) in
    let named = ap (λ (d : Definitions). d.tables) c.in_ok-enter_tables.ensures ∙ ap (λ l. tables_named (map said_table l)) c.deref-2.ensures.value in
    subst (λ t. AreOf t c.deref-3.result.now c.deref-4.result.now) (sym named)
    (subst (λ tables. AreOf (tables_named catalogue.tables) tables c.deref-4.result.now) (sym c.deref-3.ensures.value)
    (subst (AreOf (tables_named catalogue.tables) c.args.stored.now.tables.items) (sym c.deref-4.ensures.value) all))

pub enter_alignments-requires-clause-lie : goal.enter_alignments-requires-clause-lie
enter_alignments-requires-clause-lie c =
    let catalogue = said_catalogue c.args.stored.now in
    let all = each_lies catalogue c.requires.meant (c.listed_definitions_are_a_catalogues.ensures.are catalogue c.requires.meant c.requires.once) in
    let named = ap (λ (d : Definitions). d.routes) c.in_ok-enter_indexes.ensures ∙ ap (λ (d : Definitions). d.routes) c.in_ok-enter_tables.ensures
    ∙ ap (λ (d : Definitions). d.routes) c.in_ok-enter_routes.ensures ∙ ap (λ l. routes_named (map said_route l)) c.deref.ensures.value in
    subst (λ r. Lie r c.deref-5.result.now c.deref-6.result.now) (sym named)
    (subst (λ routes. Lie (routes_named catalogue.routes) routes c.deref-6.result.now) (sym c.deref-5.ensures.value)
    (subst (Lie (routes_named catalogue.routes) c.args.stored.now.routes.items) (sym c.deref-6.ensures.value) all))
