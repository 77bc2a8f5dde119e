-- What a lawful catalogue lists is meant, and says the definitions again.
use Rattle.std.proofs.Common.{◌≡◌, ◌<◌, ◌≤◌, ◌==◌, ◌^◌, ◌&&◌, ◌++◌, ℕ, zero, suc, Bool, true, false, cond, Some, is_some, List, [], ◌∷◌, get_or, length, map, refl, sym, ap, subst, ◌∙◌, arith}
use Rattle.std.specs.Prelude.{Contains, codes, nat_lt, ◌≢◌, if◌then◌else◌}
use Rattle.std.specs.List.{AllByRecursion, AllZip}
use Rattle.std.specs.FinMap as names
use Rattle.std.proofs.lemmas.Bool.{and_from, and_parts, eq-eqb, eqb-true, false≢true, lt-ltb}
use Rattle.std.proofs.lemmas.List.{length-append, length-map}
use Rattle.std.proofs.lemmas.List.Elements.{All-from_recursion}
use Rattle.rs_catalog.specs.Definitions as catalog
use Rattle.rs_catalog.specs.Definitions.{Definitions, indexed_column, state_from, table_from, tables_from}
use Rattle.rs_catalog.proofs.Names.{entries-map_values, len-map_values}
use Rattle.rs_catalog_meaning.specs.Fitting.{FitsTypes}
use Rattle.rs_catalog_meaning.specs.Meaning as meaning
use Rattle.rs_catalog_meaning.specs.Meaning.{AreMeant, AreRoutes, IsPiece, column_of, columns_of, ends_by_name, ends_of}
use Rattle.rs_catalog_meaning.specs.Stating as stating
use Rattle.rs_catalog_meaning.specs.Stating.{name_with, named_alignment, table_with}
use Rattle.rs_catalog_pages.specs.Items.{AlignmentItem, CatalogueItems, IndexItem, RouteItem, TableItem, ViewItem, kind_of}
use Rattle.rs_file_meaning.specs.Contents.{AreGivenOnce}
use Rattle.rs_stored_catalog.specs.Listing.{kind_code, listed_alignment, listed_column, listed_index, listed_piece, listed_route, listed_table, listed_view, listing_of, number_found, type_code}
use Rattle.rs_stored_catalog.specs.Relisting.{AreLawful}
use Rattle.rs_facts.specs.Fact.{Name, Names}
use Rattle.rs_facts.specs.Query.{Column, Piece, RouteEnds}
use Rattle.rs_facts.specs.WellFormed.{IsPieceOn}
use Rattle.rs_file_meaning.specs.States.{AreDefinitionsAt, HasLine, IsViewOf, named_index, named_route, named_table, routes_named}
use Rattle.rs_machine.specs.Lawful as lawful
use Rattle.rs_machine.specs.Lawful.{AreColumnsOfTable, Each}
use Rattle.rs_machine.specs.Request.{Asks, command}
use Rattle.rs_machine.specs.State.{State, has}
use Rattle.rs_machine.specs.declared.limits.TheConstants.{ROUTES, TABLES, INDEXES, VIEWS, ALIGNMENTS}
use Rattle.rs_machine_laws.specs.ViewLines.{IsReadable, shortest_view_line}
use Rattle.rs_page_owners.specs.Counts.{times}
use Rattle.rs_stored_catalog.proofs.Entering.{said_there}
use Rattle.rs_stored_catalog.proofs.Found.{name_with-there}
use Rattle.rs_stored_catalog.proofs.ListedMaps.{each_of, each_once, each_said, each_under, each_value, entries_back, entry_there, few_items, from_entries_back, items_in_order, map-back, numbered_there, value_of, value_there}
use Rattle.rs_file_meaning.proofs.Named.{first_there, later_there}
use Rattle.rs_file_meaning.proofs.Picked.{born_all, same_numbered}
use Rattle.rs_syntax.specs.QueryView.{query_tree}
use Rattle.rs_syntax.specs.Sound.{AreColumns, IsColumnType}
use Rattle.rs_syntax.specs.Tree.{QueryTree, define_view}
use Rattle.rs_value.specs.declared.column.ColumnType.{ColumnType}
use Rattle.rs_value.specs.declared.column.ColumnType.TheVariants as types
use Rattle.rs_value.specs.declared.column.Kind.{Kind}
use Rattle.rs_value.specs.declared.column.Kind.TheVariants.{Line, Point}

-- ---- tables

kind_again : (kind : Kind) → kind_of (kind_code kind) ≡ kind
kind_again Point = refl
kind_again Line = refl

kind_few : (kind : Kind) → kind_code kind ≤ 1
kind_few Point = omega arith
kind_few Line = omega arith

type_again : (type : ColumnType) → IsColumnType type → (if type_code type == 0 then types.Int else types.Text (type_code type)) ≡ type
type_again types.Int is = refl
type_again (types.Text most) is = elim (most == 0) as (λ b. (most == 0) ≡ b → (if b then types.Int else types.Text most) ≡ types.Text most) [
  | true ↦ λ e. absurd (omega (arith, eqb-true most 0 e, is.0))
  | false ↦ λ e. refl
] refl

columns_again : (columns : List Column) → AreColumns columns → columns_of (map listed_column columns) ≡ columns
columns_again [] are = refl
columns_again (column ∷ columns) are = λ i. (column.0, type_again column.1 are.1 i) ∷ columns_again columns are.2 i

table_again : (name : Name) (item : catalog.TableItem) → AreColumns item.columns → named_table (listed_table (name, item)) ≡ (name, item)
table_again name item are = λ i. (name, record { number = item.number; kind = kind_again item.kind i; columns = columns_again item.columns are i })

-- ---- tables by number and column

-- the first table with a number and a column
record IsFirstWith (tables : List TableItem) (number column : ℕ) : Type 0 where
  item : TableItem
  there : Contains tables item
  numbered : item.number ≡ number
  named : table_with tables number column ≡ item.name

module _ (table : TableItem) (column : ℕ) (below : column < length table.columns) where
  abbrev fits : TableItem → Bool
  fits first = (first.number == table.number) && nat_lt column (length first.columns)

  first_with : (tables : List TableItem) (k : ℕ) → k < length tables → get_or tables k table ≡ table → IsFirstWith tables table.number column
  first_with [] k inside at = absurd (omega (arith, inside))
  first_with (first ∷ tables) zero inside at = record {
    item = first;
    there = first_there first tables;
    numbered = ap (λ (t : TableItem). t.number) at;
    named = ap (λ b. cond b first.name (table_with tables table.number column)) (ap fits at
        ∙ and_from (table.number == table.number) (nat_lt column (length table.columns)) (eq-eqb table.number table.number refl) (lt-ltb column (length table.columns) below));
  }
  first_with (first ∷ tables) (suc k) inside at =
      let rest = first_with tables k (omega (arith, inside)) at in
      elim (fits first) as (λ b. fits first ≡ b → IsFirstWith (first ∷ tables) table.number column) [
        | true ↦ λ e. record {
          item = first;
          there = first_there first tables;
          numbered = eqb-true first.number table.number (and_parts (first.number == table.number) (nat_lt column (length first.columns)) e).0;
          named = ap (λ b. cond b first.name (table_with tables table.number column)) e;
        }
        | false ↦ λ e. record {
          item = rest.item;
          there = later_there first rest.item tables rest.there;
          numbered = rest.numbered;
          named = ap (λ b. cond b first.name (table_with tables table.number column)) e ∙ rest.named;
        }
      ] refl

  -- where the number is its own, it is the table
  table_named : (tables : List TableItem) → Contains tables table → ((n : ℕ) → times (map (λ (t : TableItem). t.number) tables) n ≤ 1) → table_with tables table.number column ≡ table.name
  table_named tables there once =
      let first = first_with tables there.0 there.1 there.2 in
      first.named ∙ ap (λ (t : TableItem). t.name) (same_numbered (λ (t : TableItem). t.number) tables first.item table first.there there first.numbered (once first.item.number))

-- ---- views

-- what is said of the shortest line that defines a view
abbrev pub IsLineReadable : Type 0
IsLineReadable = (line : List ℕ) (session : ℕ) (name : List ℕ) (query : QueryTree) (text : List ℕ) → Asks line (command session (define_view name query text)) → IsReadable (shortest_view_line name text)

text_short : IsLineReadable → (name : Name) (query : QueryTree) (text : List ℕ) → HasLine name query text → length text < 2 ^ 16
text_short law name query text has =
    let few = (law has.line has.session name query text has.asks).few in
    omega (arith, few, length-append (codes "0 DEFINE VIEW ") (name ++ (codes " AS " ++ text)), length-append name (codes " AS " ++ text), length-append (codes " AS ") text)

views_again : (entries : List (Name × catalog.ViewItem)) → AllByRecursion (λ e. HasLine e.0 (query_tree e.1.query) e.1.text) entries → AllZip IsViewOf (map listed_view entries) entries
views_again [] all = tt
views_again (entry ∷ entries) all = (record { named = refl; text = refl; defined = all.0 }, views_again entries all.1)

module _ (definitions : Definitions) (is : AreLawful definitions) where
  abbrev state : State
  state = state_from definitions is.referents is.spans is.rest

  abbrev items : CatalogueItems
  items = listing_of definitions

  -- ---- routes

  each_route : Each definitions.routes (λ name item. lawful.IsRoute name item.ends)
  each_route = each_value (λ (item : catalog.RouteItem). item.ends) lawful.IsRoute definitions.routes is.lawful.routes

  routes_meant : AreRoutes items.routes
  routes_meant = record {
    in_order = items_in_order (λ (r : RouteItem). r.name) listed_route (λ e. refl) definitions.routes;
    each = each_said listed_route (λ (r : RouteItem). lawful.IsRoute r.name (ends_of r)) (names.entries definitions.routes)
        (each_under (λ name item. lawful.IsRoute name item.ends) definitions.routes each_route);
    few = few_items listed_route definitions.routes ROUTES (omega (arith, len-map_values (λ (item : catalog.RouteItem). item.ends) definitions.routes, is.lawful.limits.routes));
    numbers_below = each_said listed_route (λ (r : RouteItem). r.number < ROUTES) (names.entries definitions.routes)
        (each_under (λ name item. item.number < ROUTES) definitions.routes (λ name item there. (is.are.routes name item there).0));
    numbers_once = each_once (λ (item : catalog.RouteItem). item.number) definitions.routes is.are.route_numbers listed_route (λ (r : RouteItem). r.number) (λ e. refl);
  }

  -- a route that is found is listed
  route_listed : (name : Name) (item : catalog.RouteItem) → names.get definitions.routes name ≡ Some item → Contains items.routes (listed_route (name, item))
  route_listed name item there = said_there listed_route (names.entries definitions.routes) (name, item) (entry_there definitions.routes name item there)

  same_routes : meaning.routes_of items.routes ≡ state.routes
  same_routes =
      ap names.from_sorted (ends_again (names.entries definitions.routes) ∙ sym (entries-map_values (λ (item : catalog.RouteItem). item.ends) definitions.routes))
      ∙ from_entries_back state.routes
    where
      ends_again : (es : List (Name × catalog.RouteItem)) → ends_by_name (map listed_route es) ≡ map (λ e. (e.0, e.1.ends)) es
      ends_again [] = refl
      ends_again (e ∷ es) = ap (λ l. (e.0, e.1.ends) ∷ l) (ends_again es)

  -- ---- tables

  each_table : Each definitions.tables (λ name item. lawful.IsTable state.routes name (table_from definitions.routes is.spans item))
  unfolding tables_from
  each_table = each_value (table_from definitions.routes is.spans) (lawful.IsTable state.routes) definitions.tables is.lawful.tables

  tables_few : names.len definitions.tables ≤ TABLES
  unfolding tables_from
  tables_few = omega (arith, len-map_values (table_from definitions.routes is.spans) definitions.tables, is.lawful.limits.tables)

  sound : (name : Name) (item : catalog.TableItem) → names.get definitions.tables name ≡ Some item → AreColumns item.columns
  sound name item there = (each_table name item there).columns.sound

  table_meant : (name : Name) (item : catalog.TableItem) → names.get definitions.tables name ≡ Some item → meaning.IsTable (listed_table (name, item))
  table_meant name item there =
      let one = each_table name item there in
      record {
        named = one.named;
        kind = kind_few item.kind;
        columns = subst AreColumnsOfTable (sym (columns_again item.columns one.columns.sound)) one.columns;
      }

  table_listed : (name : Name) (item : catalog.TableItem) → names.get definitions.tables name ≡ Some item → Contains items.tables (listed_table (name, item))
  table_listed name item there = said_there listed_table (names.entries definitions.tables) (name, item) (entry_there definitions.tables name item there)

  has_table : (name : Name) (item : catalog.TableItem) → names.get definitions.tables name ≡ Some item → has state.tables name ≡ true
  unfolding tables_from
  has_table name item there = ap is_some (value_there (table_from definitions.routes is.spans) definitions.tables name item there)

  -- ---- indexes

  each_index : Each definitions.indexes (λ name item. lawful.IsIndex state.tables name (indexed_column item))
  each_index = each_value indexed_column (lawful.IsIndex state.tables) definitions.indexes is.lawful.indexes

  index_meant : (name : Name) (item : catalog.IndexItem) → names.get definitions.indexes name ≡ Some item → meaning.IsIndex items.tables (listed_index (name, item))
  index_meant name item there =
      let of = (is.are.indexes name item there).1 in
      record {
        named = (each_index name item there).named;
        table = listed_table (item.table, of.table);
        there = table_listed item.table of.table of.there;
        number = of.numbered;
        column = omega (arith, of.below, length-map of.table.columns listed_column);
      }

  -- ---- views

  view_meant : (name : Name) (item : catalog.ViewItem) → names.get definitions.views name ≡ Some item → meaning.IsView items.tables (listed_view (name, item))
  view_meant name item there =
      let one = (is.lawful.views.each name (query_tree item.query) (value_there (λ (item : catalog.ViewItem). query_tree item.query) definitions.views name item there)).is in
      record {
        named = one.named;
        no_table = each_said listed_table (λ (t : TableItem). t.name ≢ name) (names.entries definitions.tables)
            (each_under (λ other table. other ≢ name) definitions.tables (λ other table found same.
            false≢true (sym one.no_table ∙ ap (has state.tables) (sym same) ∙ has_table other table found)));
      }

  -- ---- alignments

  piece_meant : (piece : Piece) → IsPieceOn state.routes piece → IsPiece items.routes (listed_piece definitions.routes piece)
  piece_meant piece lies =
      let one = value_of (λ (item : catalog.RouteItem). item.ends) definitions.routes piece.from_route lies.first lies.first_there in
      let other = value_of (λ (item : catalog.RouteItem). item.ends) definitions.routes piece.onto_route lies.second lies.second_there in
      record {
        first = listed_route (piece.from_route, one.value);
        first_there = route_listed piece.from_route one.value one.there;
        first_number = ap number_found (sym one.there);
        second = listed_route (piece.onto_route, other.value);
        second_there = route_listed piece.onto_route other.value other.there;
        second_number = ap number_found (sym other.there);
        lies = subst (λ (routes : Names RouteEnds). IsPieceOn routes piece) (sym same_routes) lies;
      }

  alignment_meant : (name : Name) (pieces : List Piece) → names.get definitions.alignments name ≡ Some pieces → meaning.IsAlignment items.routes (listed_alignment definitions.routes (name, pieces))
  alignment_meant name pieces there =
      let one = is.lawful.alignments name pieces there in
      record {
        named = one.named;
        some = omega (arith, one.some, length-map pieces (listed_piece definitions.routes));
        few = omega (arith, one.few, length-map pieces (listed_piece definitions.routes));
        lie = each_said (listed_piece definitions.routes) (IsPiece items.routes) pieces
            (each_of (IsPieceOn state.routes) (λ piece. IsPiece items.routes (listed_piece definitions.routes piece)) piece_meant pieces one.lie);
      }

  -- ---- all of them

  pub meant : AreMeant items
  meant = record {
    routes = routes_meant;
    tables = record {
      in_order = items_in_order (λ (t : TableItem). t.name) listed_table (λ e. refl) definitions.tables;
      each = each_said listed_table meaning.IsTable (names.entries definitions.tables) (each_under (λ name item. meaning.IsTable (listed_table (name, item))) definitions.tables table_meant);
      few = few_items listed_table definitions.tables TABLES tables_few;
    };
    indexes = record {
      in_order = items_in_order (λ (x : IndexItem). x.name) listed_index (λ e. refl) definitions.indexes;
      each = each_said listed_index (meaning.IsIndex items.tables) (names.entries definitions.indexes)
          (each_under (λ name item. meaning.IsIndex items.tables (listed_index (name, item))) definitions.indexes index_meant);
      few = few_items listed_index definitions.indexes INDEXES (omega (arith, len-map_values indexed_column definitions.indexes, is.lawful.limits.indexes));
    };
    views = record {
      in_order = items_in_order (λ (v : ViewItem). v.name) listed_view (λ e. refl) definitions.views;
      each = each_said listed_view (meaning.IsView items.tables) (names.entries definitions.views)
          (each_under (λ name item. meaning.IsView items.tables (listed_view (name, item))) definitions.views view_meant);
      few = few_items listed_view definitions.views VIEWS (omega (arith, len-map_values (λ (item : catalog.ViewItem). query_tree item.query) definitions.views, is.lawful.limits.views));
    };
    alignments = record {
      in_order = items_in_order (λ (a : AlignmentItem). a.name) (listed_alignment definitions.routes) (λ e. refl) definitions.alignments;
      each = each_said (listed_alignment definitions.routes) (meaning.IsAlignment items.routes) (names.entries definitions.alignments)
          (each_under (λ name pieces. meaning.IsAlignment items.routes (listed_alignment definitions.routes (name, pieces))) definitions.alignments alignment_meant);
      few = few_items (listed_alignment definitions.routes) definitions.alignments ALIGNMENTS is.lawful.limits.alignments;
    };
  }

  tables_once : (number : ℕ) → times (map (λ (t : TableItem). t.number) items.tables) number ≤ 1
  tables_once = each_once (λ (item : catalog.TableItem). item.number) definitions.tables is.are.table_numbers listed_table (λ (t : TableItem). t.number) (λ e. refl)

  index_of : (name : Name) (item : catalog.IndexItem) → names.get definitions.indexes name ≡ Some item → 0 < times (map (λ (t : TableItem). t.number) items.tables) item.table_number
  index_of name item there =
      let of = (is.are.indexes name item there).1 in
      subst (λ n. 0 < times (map (λ (t : TableItem). t.number) items.tables) n) of.numbered
      (numbered_there (λ (t : TableItem). t.number) items.tables (listed_table (item.table, of.table)) (table_listed item.table of.table of.there))

  pub once : AreGivenOnce items
  once = record {
    tables_below = each_said listed_table (λ (t : TableItem). t.number < TABLES) (names.entries definitions.tables)
        (each_under (λ name item. item.number < TABLES) definitions.tables (λ name item there. (is.are.tables name item there).0));
    tables_once = tables_once;
    indexes_below = each_said listed_index (λ (x : IndexItem). x.number < INDEXES) (names.entries definitions.indexes)
        (each_under (λ name item. item.number < INDEXES) definitions.indexes (λ name item there. (is.are.indexes name item there).0));
    indexes_once = each_once (λ (item : catalog.IndexItem). item.number) definitions.indexes is.are.index_numbers listed_index (λ (x : IndexItem). x.number) (λ e. refl);
    of_tables = each_said listed_index (λ (x : IndexItem). 0 < times (map (λ (t : TableItem). t.number) items.tables) x.table) (names.entries definitions.indexes)
        (each_under (λ name item. 0 < times (map (λ (t : TableItem). t.number) items.tables) item.table_number) definitions.indexes index_of);
  }

  -- ---- they fit

  pub typed : IsLineReadable → Each definitions.routes (λ name item. item.born < 2 ^ 64) → FitsTypes items
  typed law born = record {
    born = All-from_recursion (λ (r : RouteItem). r.born < 2 ^ 64) items.routes
        (each_said listed_route (λ (r : RouteItem). r.born < 2 ^ 64) (names.entries definitions.routes) (each_under (λ name item. item.born < 2 ^ 64) definitions.routes born));
    table_numbers = All-from_recursion (λ (t : TableItem). t.number < 2 ^ 32) items.tables
        (each_said listed_table (λ (t : TableItem). t.number < 2 ^ 32) (names.entries definitions.tables)
        (each_under (λ name item. item.number < 2 ^ 32) definitions.tables (λ name item there. omega (arith, (is.are.tables name item there).0))));
    index_numbers = All-from_recursion (λ (x : IndexItem). x.number < 2 ^ 32) items.indexes
        (each_said listed_index (λ (x : IndexItem). x.number < 2 ^ 32) (names.entries definitions.indexes)
        (each_under (λ name item. item.number < 2 ^ 32) definitions.indexes (λ name item there. omega (arith, (is.are.indexes name item there).0))));
    texts = All-from_recursion (λ (v : ViewItem). length v.text < 2 ^ 16) items.views
        (each_said listed_view (λ (v : ViewItem). length v.text < 2 ^ 16) (names.entries definitions.views) (each_under (λ name item. length item.text < 2 ^ 16) definitions.views
        (λ name item there. text_short law name (query_tree item.query) item.text (is.lines name item there))));
  }

  -- ---- they say the definitions again

  table_found : (name : Name) (item : catalog.IndexItem) → names.get definitions.indexes name ≡ Some item → table_with items.tables item.table_number item.column ≡ item.table
  table_found name item there =
      let of = (is.are.indexes name item there).1 in
      ap (λ n. table_with items.tables n item.column) (sym of.numbered)
      ∙ table_named (listed_table (item.table, of.table)) item.column (omega (arith, of.below, length-map of.table.columns listed_column)) items.tables (table_listed item.table of.table of.there) tables_once

  index_again : (name : Name) (item : catalog.IndexItem) → names.get definitions.indexes name ≡ Some item → named_index items.tables (listed_index (name, item)) ≡ (name, item)
  index_again name item there = λ i. (
    name,
    record {
      number = item.number;
      table = table_found name item there i;
      table_number = item.table_number;
      column = item.column;
    },
  )

  -- the name of a route that is found by its number
  name_again : (name : Name) (ends : RouteEnds) → names.get state.routes name ≡ Some ends → name_with items.routes (number_found (names.get definitions.routes name)) ≡ name
  name_again name ends there =
      let one = value_of (λ (item : catalog.RouteItem). item.ends) definitions.routes name ends there in
      ap (λ o. name_with items.routes (number_found o)) one.there
      ∙ name_with-there items.routes (listed_route (name, one.value)) routes_meant (route_listed name one.value one.there)

  piece_again : (piece : Piece) → IsPieceOn state.routes piece → stating.piece_of items.routes (listed_piece definitions.routes piece) ≡ piece
  piece_again piece lies = λ i. record {
    from_route = name_again piece.from_route lies.first lies.first_there i;
    from = piece.from;
    to = piece.to;
    onto_route = name_again piece.onto_route lies.second lies.second_there i;
    onto = piece.onto;
  }

  alignment_again : (name : Name) (pieces : List Piece) → names.get definitions.alignments name ≡ Some pieces → named_alignment items.routes (listed_alignment definitions.routes (name, pieces)) ≡ (name, pieces)
  alignment_again name pieces there = λ i. (
    name,
    map-back (stating.piece_of items.routes) (listed_piece definitions.routes) pieces
        (each_of (IsPieceOn state.routes) (λ piece. stating.piece_of items.routes (listed_piece definitions.routes piece) ≡ piece) piece_again pieces (is.lawful.alignments name pieces there).lie) i,
  )

  pub seen : (version : ℕ) → Each definitions.routes (λ name item. item.born ≤ version) → AreDefinitionsAt version items definitions
  seen version born = record {
    routes =
        sym (ap routes_named (born_all version items.routes
        (each_said listed_route (λ (r : RouteItem). r.born ≤ version) (names.entries definitions.routes) (each_under (λ name item. item.born ≤ version) definitions.routes born)))
        ∙ entries_back named_route listed_route definitions.routes (each_under (λ name item. named_route (listed_route (name, item)) ≡ (name, item)) definitions.routes (λ name item there. refl)));
    tables = sym (entries_back named_table listed_table definitions.tables
        (each_under (λ name item. named_table (listed_table (name, item)) ≡ (name, item)) definitions.tables (λ name item there. table_again name item (sound name item there))));
    indexes = sym (entries_back (named_index items.tables) listed_index definitions.indexes
        (each_under (λ name item. named_index items.tables (listed_index (name, item)) ≡ (name, item)) definitions.indexes index_again));
    views = views_again (names.entries definitions.views) (each_under (λ name item. HasLine name (query_tree item.query) item.text) definitions.views is.lines);
    alignments = sym (entries_back (named_alignment items.routes) (listed_alignment definitions.routes) definitions.alignments
        (each_under (λ name pieces. named_alignment items.routes (listed_alignment definitions.routes (name, pieces)) ≡ (name, pieces)) definitions.alignments alignment_again));
  }
