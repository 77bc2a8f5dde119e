-- The definitions that a file says are those of a catalogue.
use Rattle.std.proofs.Common.{◌≡◌, ◌<◌, ◌≤◌, ℕ, Some, List, length, map, refl, sym, ap, subst, ◌∙◌, arith}
use Rattle.std.specs.Prelude.{Contains}
use Rattle.std.specs.FinMap as names
use Rattle.std.specs.List.{AllByRecursion}
use Rattle.std.proofs.lemmas.List.{length-map}
use Rattle.std.proofs.lemmas.Option.{same_Some}
use Rattle.rs_catalog.specs.Definitions as catalog
use Rattle.rs_catalog.specs.Definitions.{AreDefinitions, Definitions, IsColumnOf, routes_of}
use Rattle.rs_catalog.specs.Names.{map_values}
use Rattle.rs_catalog_meaning.specs.Meaning as meaning
use Rattle.rs_catalog_meaning.specs.Meaning.{AreInOrder, AreMeant, column_of, columns_of, ends_of, route_numbers}
use Rattle.rs_catalog_meaning.specs.Stating as stating
use Rattle.rs_catalog_pages.specs.Items.{CatalogueItems, IndexItem, RouteItem, TableItem}
use Rattle.rs_catalog_pages.specs.declared.directory_items.TheConstants as file
use Rattle.rs_facts.specs.Fact.{Name, Names, name_cmp}
use Rattle.rs_facts.specs.Query.{Piece, RouteEnds}
use Rattle.rs_facts.specs.WellFormed.{ArePiecesOn}
use Rattle.rs_file.specs.Contents.{AreGivenOnce}
use Rattle.rs_machine.specs.Lawful.{IsRoute}
use Rattle.rs_machine.specs.declared.limits.TheConstants.{INDEXES, ROUTES, TABLES}
use Rattle.rs_measure.specs.declared.measure.TheConstants.{GREATEST_MEASURE}
use Rattle.rs_page_owners.specs.Counts.{times}
use Rattle.rs_planning.specs.Basis.{IndexedColumn}
use Rattle.rs_value.specs.declared.column.TheConstants.{COLUMNS}
use Rattle.rs_file_meaning.specs.States.{AreDefinitionsAt, named_index, named_route, named_table, routes_named}
use Rattle.rs_file_meaning.proofs.Lawful.{MeantAreLawful}
use Rattle.rs_file_meaning.proofs.Lists.{each_at}
use Rattle.rs_file_meaning.proofs.Named.{HasItem, get_there, item_of, values_changed}
use Rattle.rs_file_meaning.proofs.Picked.{born_all, same_numbered}

-- what is said of indexes
abbrev pub IndexesStand : Type 0
IndexesStand = (catalogue : CatalogueItems) (index : IndexItem) (table : TableItem) → AreMeant catalogue
    → ((number : ℕ) → times (map (λ (table : TableItem). table.number) catalogue.tables) number ≤ 1)
    → Contains catalogue.indexes index → Contains catalogue.tables table → table.number ≡ index.table
    → names.get (stating.state_of catalogue).indexes index.name ≡ Some (record { table = table.name; column = index.column })

-- where each item has a number of its own, so has what stands under each name
numbered : {X Y : Type 0} (name_of : X → Name) (value : X → Y) (number_of : X → ℕ) (number_in : Y → ℕ) → ((x : X) → number_in (value x) ≡ number_of x)
    → (xs : List X) → AreInOrder name_of xs → ((n : ℕ) → times (map number_of xs) n ≤ 1)
    → catalog.AreNumbered number_in (names.from_sorted {R = name_cmp} (map (λ x. (name_of x, value x)) xs))
numbered name_of value number_of number_in is xs order once a b x y one other same =
    let p = item_of name_of value xs a x order one in
    let q = item_of name_of value xs b y order other in
    let numbers : number_of p.item ≡ number_of q.item = sym (is p.item) ∙ ap number_in p.is ∙ same ∙ sym (ap number_in q.is) ∙ is q.item in
    sym p.named ∙ ap name_of (same_numbered number_of xs p.item q.item p.there q.there numbers (once (number_of p.item))) ∙ q.named

module _ (make : MeantAreLawful) (stand : IndexesStand) (version : ℕ) (catalogue : CatalogueItems) (definitions : Definitions) (meant : AreMeant catalogue) (given : AreGivenOnce catalogue)
    (born : AllByRecursion (λ (route : RouteItem). route.born ≤ version) catalogue.routes) (are : AreDefinitionsAt version catalogue definitions) where
  routes_kept : definitions.routes ≡ routes_named catalogue.routes
  routes_kept = are.routes ∙ ap routes_named (born_all version catalogue.routes born)

  routes_are : routes_of definitions ≡ meaning.routes_of catalogue.routes
  routes_are =
      ap (map_values (λ (item : catalog.RouteItem). item.ends)) routes_kept
      ∙ values_changed (λ (route : RouteItem). route.name) (λ route. (named_route route).1) (λ (item : catalog.RouteItem). item.ends) catalogue.routes meant.routes.in_order

  table_of : (name : Name) (table : catalog.TableItem) → names.get definitions.tables name ≡ Some table
      → HasItem (λ (t : TableItem). t.name) (λ t. (named_table t).1) catalogue.tables name table
  table_of name table there =
      item_of (λ (t : TableItem). t.name) (λ t. (named_table t).1) catalogue.tables name table meant.tables.in_order
      (sym (ap (λ (tables : Names catalog.TableItem). names.get tables name) are.tables) ∙ there)

  route_kept : (name : Name) (route : catalog.RouteItem) → names.get definitions.routes name ≡ Some route
      → (route.number < ROUTES) × (route.ends.start < route.ends.finish) × (route.ends.finish ≤ GREATEST_MEASURE)
  route_kept name route there =
      let has = item_of (λ (r : RouteItem). r.name) (λ r. (named_route r).1) catalogue.routes name route meant.routes.in_order
      (sym (ap (λ (routes : Names catalog.RouteItem). names.get routes name) routes_kept) ∙ there) in
      let is = each_at (λ (r : RouteItem). IsRoute r.name (ends_of r)) catalogue.routes has.item meant.routes.each has.there in
      let below = each_at (λ (r : RouteItem). r.number < ROUTES) catalogue.routes has.item meant.routes.numbers_below has.there in
      subst (λ (r : catalog.RouteItem). (r.number < ROUTES) × (r.ends.start < r.ends.finish) × (r.ends.finish ≤ GREATEST_MEASURE)) has.is (below, is.start_below_end, is.end_is_measure)

  table_kept : (name : Name) (table : catalog.TableItem) → names.get definitions.tables name ≡ Some table → (table.number < TABLES) × (length table.columns ≤ COLUMNS)
  table_kept name table there =
      let has = table_of name table there in
      let is = each_at meaning.IsTable catalogue.tables has.item meant.tables.each has.there in
      let below = each_at (λ (t : TableItem). t.number < file.TABLES) catalogue.tables has.item given.tables_below has.there in
      subst (λ (t : catalog.TableItem). (t.number < TABLES) × (length t.columns ≤ COLUMNS)) has.is (omega (arith, below), is.columns.few)

  column_kept : (index : IndexItem) → Contains catalogue.indexes index → IsColumnOf definitions.tables (stating.table_with catalogue.tables index.table index.column) index.table index.column
  column_kept index there =
      let is = each_at (meaning.IsIndex catalogue.tables) catalogue.indexes index meant.indexes.each there in
      let said = get_there (λ (i : IndexItem). i.name) (stating.column_indexed catalogue.tables) catalogue.indexes index meant.indexes.in_order there in
      let same = same_Some (stating.column_indexed catalogue.tables index) (record { table = is.table.name; column = index.column })
      (sym said ∙ stand catalogue index is.table meant given.tables_once there is.there is.number) in
      let named : stating.table_with catalogue.tables index.table index.column ≡ is.table.name = ap (λ (i : IndexedColumn). i.table) same in
      subst (λ (name : Name). IsColumnOf definitions.tables name index.table index.column) (sym named) (record {
        table = (named_table is.table).1;
        there = ap (λ (tables : Names catalog.TableItem). names.get tables is.table.name) are.tables
            ∙ get_there (λ (t : TableItem). t.name) (λ t. (named_table t).1) catalogue.tables is.table meant.tables.in_order is.there;
        numbered = is.number;
        below = omega (arith, is.column, length-map is.table.columns column_of);
      })

  index_kept : (name : Name) (index : catalog.IndexItem) → names.get definitions.indexes name ≡ Some index
      → (index.number < INDEXES) × IsColumnOf definitions.tables index.table index.table_number index.column
  index_kept name index there =
      let has = item_of (λ (i : IndexItem). i.name) (λ i. (named_index catalogue.tables i).1) catalogue.indexes name index meant.indexes.in_order
      (sym (ap (λ (indexes : Names catalog.IndexItem). names.get indexes name) are.indexes) ∙ there) in
      let below = each_at (λ (i : IndexItem). i.number < file.INDEXES) catalogue.indexes has.item given.indexes_below has.there in
      subst (λ (i : catalog.IndexItem). (i.number < INDEXES) × IsColumnOf definitions.tables i.table i.table_number i.column) has.is
      (omega (arith, below), column_kept has.item has.there)

  alignment_kept : (name : Name) (pieces : List Piece) → names.get definitions.alignments name ≡ Some pieces → ArePiecesOn (routes_of definitions) pieces
  alignment_kept name pieces there =
      subst (λ (routes : Names RouteEnds). ArePiecesOn routes pieces) (sym routes_are)
      ((make catalogue meant).alignments name pieces (sym (ap (λ (alignments : Names (List Piece)). names.get alignments name) are.alignments) ∙ there)).lie

  pub definitions_kept : AreDefinitions definitions
  definitions_kept = record {
    route_numbers = subst (catalog.AreNumbered (λ (item : catalog.RouteItem). item.number)) (sym routes_kept)
        (numbered (λ (r : RouteItem). r.name) (λ r. (named_route r).1) (λ r. r.number) (λ (item : catalog.RouteItem). item.number) (λ r. refl) catalogue.routes meant.routes.in_order meant.routes.numbers_once);
    table_numbers = subst (catalog.AreNumbered (λ (item : catalog.TableItem). item.number)) (sym are.tables)
        (numbered (λ (t : TableItem). t.name) (λ t. (named_table t).1) (λ t. t.number) (λ (item : catalog.TableItem). item.number) (λ t. refl) catalogue.tables meant.tables.in_order given.tables_once);
    index_numbers = subst (catalog.AreNumbered (λ (item : catalog.IndexItem). item.number)) (sym are.indexes)
        (numbered (λ (i : IndexItem). i.name) (λ i. (named_index catalogue.tables i).1) (λ i. i.number) (λ (item : catalog.IndexItem). item.number) (λ i. refl) catalogue.indexes
        meant.indexes.in_order given.indexes_once);
    routes = route_kept;
    tables = table_kept;
    indexes = index_kept;
    alignments = alignment_kept;
  }
