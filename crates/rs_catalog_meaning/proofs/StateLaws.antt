-- The state that definitions make is lawful.
use Rattle.std.proofs.Common.{◌≡◌, ◌<◌, ◌≤◌, ℕ, zero, suc, true, false, Some, is_some, List, [], ◌∷◌, length, map, get_or, refl, sym, ap, subst, ◌∙◌, arith}
use Rattle.std.specs.Prelude.{Contains, ◌≢◌, ◌==◌, if◌then◌else◌}
use Rattle.std.specs.FinMap as names
use Rattle.std.specs.FinMap.{get-empty, get-from_sorted, is_sorted, len-empty}
use Rattle.std.proofs.lemmas.Bool.{eqb-false, eqb-true, false≢true}
use Rattle.std.proofs.lemmas.List.{length-map}
use Rattle.std.proofs.lemmas.List.Elements.{All-contains, All-from_recursion}
use Rattle.rs_facts.specs.Fact.{Name, Names, contains, name_cmp}
use Rattle.rs_facts.specs.Query.{Piece, RouteEnds, Table}
use Rattle.rs_facts.specs.WellFormed.{IsPieceOn}
use Rattle.rs_machine.specs.declared.limits.TheConstants.{ALIGNMENTS, INDEXES, ROUTES, TABLES}
use Rattle.rs_machine.specs.Lawful as lawful
use Rattle.rs_machine.specs.State.{RowText, has}
use Rattle.rs_page_owners.specs.Counts.{times}
use Rattle.rs_planning.specs.Basis.{IndexedColumn}
use Rattle.rs_syntax.specs.Sound.{IsName}
use Rattle.rs_syntax.specs.Tree.{QueryTree}
use Rattle.rs_value.specs.Row.{Row, row_cmp}
use Rattle.rs_catalog_pages.specs.Items.{AlignmentItem, CatalogueItems, IndexItem, PieceItem, RouteItem, TableItem, ViewItem}
use Rattle.rs_catalog_meaning.specs.Meaning.{AreMeant, IsAlignment, IsIndex, IsPiece, IsTable, IsView, ends_of, named_piece, route_numbers, routes_of}
use Rattle.rs_catalog_meaning.specs.Stating.{alignments_of, column_indexed, indexes_of, name_with, named_alignment, named_index, named_table, piece_of, state_of, tables_of}
use Rattle.rs_catalog_meaning.proofs.Each.{each_of, each_said}
use Rattle.rs_catalog_meaning.proofs.IndexLaws.{index_lawful, of_table}
use Rattle.rs_catalog_meaning.proofs.NameOrder.{sorted_values, to_T}
use Rattle.rs_catalog_meaning.proofs.RouteLaws.{same_route}
use Rattle.rs_catalog_meaning.proofs.UnderNames.{each_so, few_sorted, no_such, none_so, under_name}

-- ---- routes by their numbers

with_number : (routes : List RouteItem) (route : RouteItem) → Contains routes route
    → (found : RouteItem) × Contains routes found × (found.number ≡ route.number) × (name_with routes route.number ≡ found.name)
with_number [] route there = absurd (omega (arith, there.1))
with_number (first ∷ routes) route there =
    elim (first.number == route.number) as (λ b. (first.number == route.number) ≡ b → (found : RouteItem) × Contains (first ∷ routes) found × (found.number ≡ route.number)
    × ((if b then first.name else name_with routes route.number) ≡ found.name)) [
      | true ↦ λ same. (first, (0, omega arith, refl), eqb-true first.number route.number same, refl)
      | false ↦ λ other. later (with_number routes route (rest there.0 there.1 there.2 (eqb-false first.number route.number other)))
    ] refl
  where
    rest : (k : ℕ) → k < length (first ∷ routes) → get_or (first ∷ routes) k route ≡ route → (first.number ≡ route.number → ⊥) → Contains routes route
    rest zero inside is other = absurd (other (ap (λ (r : RouteItem). r.number) is))
    rest (suc k) inside is other = (k, omega arith, is)

    later : (found : RouteItem) × Contains routes found × (found.number ≡ route.number) × (name_with routes route.number ≡ found.name)
        → (found : RouteItem) × Contains (first ∷ routes) found × (found.number ≡ route.number) × (name_with routes route.number ≡ found.name)
    later more = (more.0, (suc more.1.0, omega (arith, more.1.1), more.1.2), more.2, more.3)

named_with : (routes : List RouteItem) (route : RouteItem) (number : ℕ) → ((n : ℕ) → times (route_numbers routes) n ≤ 1) → Contains routes route → route.number ≡ number
    → route.name ≡ name_with routes number
named_with routes route number once there is =
    let found = with_number routes route there in
    ap (λ (r : RouteItem). r.name) (same_route routes route found.0 there found.1 (sym found.2) once) ∙ sym found.3 ∙ ap (name_with routes) is

-- ---- alignments

piece_on : (routes : List RouteItem) (piece : PieceItem) → ((n : ℕ) → times (route_numbers routes) n ≤ 1) → IsPiece routes piece → IsPieceOn (routes_of routes) (piece_of routes piece)
piece_on routes piece once is =
    subst (λ name. IsPieceOn (routes_of routes) (named_piece (name_with routes piece.from_route) name piece)) (named_with routes is.second piece.onto_route once is.second_there is.second_number)
    (subst (λ name. IsPieceOn (routes_of routes) (named_piece name is.second.name piece)) (named_with routes is.first piece.from_route once is.first_there is.first_number) is.lies)

alignment_lawful : (routes : List RouteItem) (alignment : AlignmentItem) → ((n : ℕ) → times (route_numbers routes) n ≤ 1) → IsAlignment routes alignment
    → lawful.IsAlignment (routes_of routes) alignment.name (map (piece_of routes) alignment.pieces)
alignment_lawful routes alignment once is = record {
  named = is.named;
  some = omega (arith, is.some, length-map alignment.pieces (piece_of routes));
  few = omega (arith, is.few, length-map alignment.pieces (piece_of routes));
  lie = each_said (piece_of routes) (IsPieceOn (routes_of routes)) alignment.pieces
      (each_of (IsPiece routes) (λ (piece : PieceItem). IsPieceOn (routes_of routes) (piece_of routes piece)) (λ piece. piece_on routes piece once) alignment.pieces is.lie);
}

-- ---- tables

no_row : {P : Type 0} (row : Row) → contains names.empty row ≡ true → P
no_row row there = absurd (false≢true (sym (ap is_some (get-empty row_cmp row)) ∙ there))

table_lawful : (routes : Names RouteEnds) (table : TableItem) → IsTable table → lawful.IsTable routes table.name (named_table table).1
table_lawful routes table is = record {
  named = is.named;
  columns = is.columns;
  facts = λ route k row there. no_row row there;
}

-- ---- the state

module _ (catalogue : CatalogueItems) (are : AreMeant catalogue) where
  routes_sorted : is_sorted name_cmp (map (λ (route : RouteItem). (route.name, ends_of route)) catalogue.routes) ≡ true
  routes_sorted = sorted_values (λ (route : RouteItem). route.name) ends_of catalogue.routes ∙ are.routes.in_order

  tables_sorted : is_sorted name_cmp (map named_table catalogue.tables) ≡ true
  tables_sorted = sorted_values (λ (table : TableItem). table.name) (λ table. (named_table table).1) catalogue.tables ∙ are.tables.in_order

  alignments_sorted : is_sorted name_cmp (map (named_alignment catalogue.routes) catalogue.alignments) ≡ true
  alignments_sorted =
      sorted_values (λ (alignment : AlignmentItem). alignment.name) (λ alignment. (named_alignment catalogue.routes alignment).1) catalogue.alignments ∙ are.alignments.in_order

  indexes_sorted : is_sorted name_cmp (map (named_index catalogue.tables) catalogue.indexes) ≡ true
  indexes_sorted = sorted_values (λ (index : IndexItem). index.name) (column_indexed catalogue.tables) catalogue.indexes ∙ are.indexes.in_order

  each_route : lawful.Each (routes_of catalogue.routes) lawful.IsRoute
  each_route =
      each_so lawful.IsRoute (map (λ (route : RouteItem). (route.name, ends_of route)) catalogue.routes) routes_sorted
      (each_said (λ (route : RouteItem). (route.name, ends_of route)) (λ (e : Name × RouteEnds). lawful.IsRoute e.0 e.1) catalogue.routes are.routes.each)

  each_table : lawful.Each (tables_of catalogue.tables) (lawful.IsTable (routes_of catalogue.routes))
  each_table =
      each_so (lawful.IsTable (routes_of catalogue.routes)) (map named_table catalogue.tables) tables_sorted
      (each_said named_table (λ (e : Name × Table). lawful.IsTable (routes_of catalogue.routes) e.0 e.1) catalogue.tables
      (each_of IsTable (λ (table : TableItem). lawful.IsTable (routes_of catalogue.routes) table.name (named_table table).1) (table_lawful (routes_of catalogue.routes))
      catalogue.tables are.tables.each))

  each_alignment : lawful.Each (alignments_of catalogue.routes catalogue.alignments) (lawful.IsAlignment (routes_of catalogue.routes))
  each_alignment =
      each_so (lawful.IsAlignment (routes_of catalogue.routes)) (map (named_alignment catalogue.routes) catalogue.alignments) alignments_sorted
      (each_said (named_alignment catalogue.routes) (λ (e : Name × List Piece). lawful.IsAlignment (routes_of catalogue.routes) e.0 e.1) catalogue.alignments
      (each_of (IsAlignment catalogue.routes) (λ (alignment : AlignmentItem). lawful.IsAlignment (routes_of catalogue.routes) alignment.name (map (piece_of catalogue.routes) alignment.pieces))
      (λ alignment. alignment_lawful catalogue.routes alignment are.routes.numbers_once) catalogue.alignments are.alignments.each))

  each_index : lawful.Each (indexes_of catalogue.tables catalogue.indexes) (lawful.IsIndex (tables_of catalogue.tables))
  each_index =
      each_so (lawful.IsIndex (tables_of catalogue.tables)) (map (named_index catalogue.tables) catalogue.indexes) indexes_sorted
      (each_said (named_index catalogue.tables) (λ (e : Name × IndexedColumn). lawful.IsIndex (tables_of catalogue.tables) e.0 e.1) catalogue.indexes
      (each_of (IsIndex catalogue.tables) (λ (index : IndexItem). lawful.IsIndex (tables_of catalogue.tables) index.name (column_indexed catalogue.tables index))
      (λ index. index_lawful catalogue.tables index tables_sorted) catalogue.indexes are.indexes.each))

  pub lawful_state : lawful.IsLawful (state_of catalogue)
  lawful_state = record {
    routes = each_route;
    referents_named = record { each = λ route. none_so (λ name measure. IsName name) };
    referents = λ route. none_so (lawful.IsReferent (routes_of catalogue.routes) route);
    tables = each_table;
    views = record {
      each = none_so (lawful.IsViewMeant (state_of catalogue));
      order = record {
        place = λ name. 0;
        below = λ name query there. absurd (none_so (λ n q. ⊥) name query there);
        apart = λ a b x y one other same. absurd (none_so (λ n q. ⊥) a x one);
        before = λ name other query there inside y known. absurd (none_so (λ n q. ⊥) name query there);
      };
    };
    alignments = each_alignment;
    indexes = each_index;
    cursors = λ session. record {
      named = none_so (λ name lines. IsName name);
      few = omega (arith, len-empty name_cmp (List RowText));
      none_beyond = λ beyond. len-empty name_cmp (List RowText);
    };
    limits = record {
      routes = few_sorted (λ (route : RouteItem). (route.name, ends_of route)) catalogue.routes ROUTES routes_sorted are.routes.few;
      referents = λ route. omega (arith, len-empty name_cmp ℕ);
      tables = few_sorted named_table catalogue.tables TABLES tables_sorted are.tables.few;
      indexes = few_sorted (named_index catalogue.tables) catalogue.indexes INDEXES indexes_sorted are.indexes.few;
      views = omega (arith, len-empty name_cmp QueryTree);
      alignments = few_sorted (named_alignment catalogue.routes) catalogue.alignments ALIGNMENTS alignments_sorted are.alignments.few;
      changes = omega arith;
    };
  }

  pub free_for_view : (view : ViewItem) → Contains catalogue.views view → has (state_of catalogue).tables view.name ≡ false
  free_for_view view there =
      let is = All-contains (IsView catalogue.tables) catalogue.views view (All-from_recursion (IsView catalogue.tables) catalogue.views are.views.each) there in
      ap is_some (get-from_sorted name_cmp (map named_table catalogue.tables) view.name (to_T (is_sorted name_cmp (map named_table catalogue.tables)) tables_sorted)
      ∙ no_such (map named_table catalogue.tables) view.name (each_said named_table (λ (e : Name × Table). e.0 ≢ view.name) catalogue.tables is.no_table))

  pub index_there : (index : IndexItem) (table : TableItem) → ((n : ℕ) → times (map (λ (t : TableItem). t.number) catalogue.tables) n ≤ 1) → Contains catalogue.indexes index
      → Contains catalogue.tables table → table.number ≡ index.table
      → names.get (state_of catalogue).indexes index.name ≡ Some (record { table = table.name; column = index.column })
  index_there index table once there of number =
      let is = All-contains (IsIndex catalogue.tables) catalogue.indexes index (All-from_recursion (IsIndex catalogue.tables) catalogue.indexes are.indexes.each) there in
      under_name (named_index catalogue.tables) catalogue.indexes index indexes_sorted there ∙ ap Some (of_table catalogue.tables index table is once of number)
