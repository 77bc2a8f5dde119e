-- Where the state that definitions make is lawful, they are meant.
use Rattle.std.proofs.Common.{◌≡◌, ◌<◌, ◌≤◌, ℕ, true, false, Some, is_some, List, [], ◌∷◌, map, get_or, suc, refl, sym, ap, subst, ◌∙◌, arith}
use Rattle.std.specs.Prelude.{Contains, ◌≢◌, ◌==◌, if◌then◌else◌}
use Rattle.std.specs.List.{AllByRecursion}
use Rattle.std.specs.FinMap as names
use Rattle.std.specs.FinMap.{get-from_sorted, is_sorted}
use Rattle.std.proofs.lemmas.Bool.{eqb-true}
use Rattle.std.proofs.lemmas.List.{length-map}
use Rattle.std.proofs.lemmas.List.Elements.{All-from_recursion, Contains-get_or, recursion_from_All}
use Rattle.rs_facts.specs.Fact.{Name, Names, name_cmp}
use Rattle.rs_facts.specs.Query.{Piece, RouteEnds, Table}
use Rattle.rs_facts.specs.WellFormed.{IsPieceOn}
use Rattle.rs_machine.specs.declared.limits.TheConstants.{ALIGNMENTS, INDEXES, ROUTES, TABLES}
use Rattle.rs_machine.specs.Lawful as lawful
use Rattle.rs_machine.specs.State.{has}
use Rattle.rs_planning.specs.Basis.{IndexedColumn}
use Rattle.rs_syntax.specs.Sound.{IsName}
use Rattle.rs_catalog_pages.specs.Items.{AlignmentItem, CatalogueItems, IndexItem, PieceItem, RouteItem, TableItem, ViewItem}
use Rattle.rs_catalog_meaning.specs.Meaning.{AreMeant, AreRoutes, IsAlignment, IsIndex, IsPiece, IsTable, IsView, ends_of, named_piece, routes_of}
use Rattle.rs_catalog_meaning.specs.Stating.{AreListed, column_indexed, name_with, named_alignment, named_index, named_table, piece_of, state_of, tables_of}
use Rattle.rs_catalog_meaning.proofs.Each.{each_of, each_said, said_each}
use Rattle.rs_catalog_meaning.proofs.IndexLaws.{index_meant}
use Rattle.rs_catalog_meaning.proofs.NameOrder.{sorted_values, to_T}
use Rattle.rs_lexer.proofs.NameTexts.{not_empty}
use Rattle.rs_catalog_meaning.proofs.StateLaws.{free_for_view}
use Rattle.rs_catalog_meaning.proofs.UnderNames.{each_back, few_back, none_named}

each_both : {X : Type 0} (P Q R : X → Type 0) → ((x : X) → P x → Q x → R x) → (xs : List X) → AllByRecursion P xs → AllByRecursion Q xs → AllByRecursion R xs
each_both P Q R gives [] one other = tt
each_both P Q R gives (x ∷ xs) one other = (gives x one.0 other.0, each_both P Q R gives xs one.1 other.1)

-- ---- routes by their numbers

abbrev HasNumber : List RouteItem → ℕ → Type 0
HasNumber routes number = (route : RouteItem) × Contains routes route × (route.number ≡ number) × (name_with routes number ≡ route.name)

with_name : (routes : List RouteItem) (number : ℕ) → (name_with routes number ≡ [] → ⊥) → HasNumber routes number
with_name [] number some = absurd (some refl)
with_name (first ∷ routes) number some =
    elim (first.number == number) as (λ b. (first.number == number) ≡ b → ((if b then first.name else name_with routes number) ≡ [] → ⊥) → (route : RouteItem)
    × Contains (first ∷ routes) route × (route.number ≡ number) × ((if b then first.name else name_with routes number) ≡ route.name)) [
      | true ↦ λ same given. (first, (0, omega arith, refl), eqb-true first.number number same, refl)
      | false ↦ λ other given. later (with_name routes number given)
    ] refl some
  where
    later : HasNumber routes number
        → (route : RouteItem) × Contains (first ∷ routes) route × (route.number ≡ number) × (name_with routes number ≡ route.name)
    later more = (more.0, (suc more.1.0, omega (arith, more.1.1), more.1.2), more.2, more.3)

module _ (routes : List RouteItem) (each : lawful.Each (routes_of routes) lawful.IsRoute) where
  -- a route that is found by its number's name has the number
  of_number : (number : ℕ) (ends : RouteEnds) → names.get (routes_of routes) (name_with routes number) ≡ Some ends → HasNumber routes number
  of_number number ends there = with_name routes number (not_empty (name_with routes number) (each (name_with routes number) ends there).named)

  piece_meant : (piece : PieceItem) → IsPieceOn (routes_of routes) (piece_of routes piece) → IsPiece routes piece
  piece_meant piece is =
      let one = of_number piece.from_route is.first is.first_there in
      let other = of_number piece.onto_route is.second is.second_there in
      record {
        first = one.0;
        first_there = one.1;
        first_number = one.2;
        second = other.0;
        second_there = other.1;
        second_number = other.2;
        lies = subst (λ name. IsPieceOn (routes_of routes) (named_piece one.0.name name piece)) other.3
            (subst (λ name. IsPieceOn (routes_of routes) (named_piece name (name_with routes piece.onto_route) piece)) one.3 is);
      }

  alignment_meant : (alignment : AlignmentItem) → lawful.IsAlignment (routes_of routes) alignment.name (map (piece_of routes) alignment.pieces) → IsAlignment routes alignment
  alignment_meant alignment is = record {
    named = is.named;
    some = omega (arith, is.some, length-map alignment.pieces (piece_of routes));
    few = omega (arith, is.few, length-map alignment.pieces (piece_of routes));
    lie = each_of (λ (piece : PieceItem). IsPieceOn (routes_of routes) (piece_of routes piece)) (IsPiece routes) piece_meant alignment.pieces
        (said_each (piece_of routes) (IsPieceOn (routes_of routes)) alignment.pieces is.lie);
  }

table_meant : (routes : Names RouteEnds) (table : TableItem) → table.kind ≤ 1 → lawful.IsTable routes table.name (named_table table).1 → IsTable table
table_meant routes table kind is = record { named = is.named; kind = kind; columns = is.columns }

-- ---- all of them

module _ (catalogue : CatalogueItems) (listed : AreListed catalogue) (is : lawful.IsLawful (state_of catalogue)) where
  abbrev route_entry : RouteItem → Name × RouteEnds
  route_entry route = (route.name, ends_of route)

  routes_rise : is_sorted name_cmp (map route_entry catalogue.routes) ≡ true
  routes_rise = sorted_values (λ (route : RouteItem). route.name) ends_of catalogue.routes ∙ listed.routes

  tables_rise : is_sorted name_cmp (map named_table catalogue.tables) ≡ true
  tables_rise = sorted_values (λ (table : TableItem). table.name) (λ table. (named_table table).1) catalogue.tables ∙ listed.tables

  alignments_rise : is_sorted name_cmp (map (named_alignment catalogue.routes) catalogue.alignments) ≡ true
  alignments_rise =
      sorted_values (λ (alignment : AlignmentItem). alignment.name) (λ alignment. (named_alignment catalogue.routes alignment).1) catalogue.alignments ∙ listed.alignments

  indexes_rise : is_sorted name_cmp (map (named_index catalogue.tables) catalogue.indexes) ≡ true
  indexes_rise = sorted_values (λ (index : IndexItem). index.name) (column_indexed catalogue.tables) catalogue.indexes ∙ listed.indexes

  routes_meant : AreRoutes catalogue.routes
  routes_meant = record {
    in_order = listed.routes;
    each = said_each route_entry (λ (e : Name × RouteEnds). lawful.IsRoute e.0 e.1) catalogue.routes
        (each_back lawful.IsRoute (map route_entry catalogue.routes) routes_rise is.routes);
    few = few_back route_entry catalogue.routes ROUTES routes_rise is.limits.routes;
    numbers_below = said_each (λ (route : RouteItem). route.number) (λ n. n < ROUTES) catalogue.routes listed.route_numbers.below;
    numbers_once = listed.route_numbers.once;
  }

  each_table : AllByRecursion IsTable catalogue.tables
  each_table =
      let routes = routes_of catalogue.routes in
      each_both (λ (table : TableItem). table.kind ≤ 1) (λ (table : TableItem). lawful.IsTable routes table.name (named_table table).1) IsTable (table_meant routes) catalogue.tables
      listed.kinds (said_each named_table (λ (e : Name × Table). lawful.IsTable routes e.0 e.1) catalogue.tables
      (each_back (lawful.IsTable routes) (map named_table catalogue.tables) tables_rise is.tables))

  each_alignment : AllByRecursion (IsAlignment catalogue.routes) catalogue.alignments
  each_alignment =
      let routes = routes_of catalogue.routes in
      each_of (λ (alignment : AlignmentItem). lawful.IsAlignment routes alignment.name (map (piece_of catalogue.routes) alignment.pieces)) (IsAlignment catalogue.routes)
      (alignment_meant catalogue.routes is.routes) catalogue.alignments
      (said_each (named_alignment catalogue.routes) (λ (e : Name × List Piece). lawful.IsAlignment routes e.0 e.1) catalogue.alignments
      (each_back (lawful.IsAlignment routes) (map (named_alignment catalogue.routes) catalogue.alignments) alignments_rise is.alignments))

  each_index : AllByRecursion (IsIndex catalogue.tables) catalogue.indexes
  each_index =
      let tables = tables_of catalogue.tables in
      each_of (λ (index : IndexItem). lawful.IsIndex tables index.name (column_indexed catalogue.tables index)) (IsIndex catalogue.tables)
      (λ index. index_meant catalogue.tables index (routes_of catalogue.routes) is.tables) catalogue.indexes
      (said_each (named_index catalogue.tables) (λ (e : Name × IndexedColumn). lawful.IsIndex tables e.0 e.1) catalogue.indexes
      (each_back (lawful.IsIndex tables) (map (named_index catalogue.tables) catalogue.indexes) indexes_rise is.indexes))

  view_meant : (view : ViewItem) → IsName view.name × (has (state_of catalogue).tables view.name ≡ false) → IsView catalogue.tables view
  view_meant view told = record {
    named = told.0;
    no_table = said_each named_table (λ (e : Name × Table). e.0 ≢ view.name) catalogue.tables
        (none_named (map named_table catalogue.tables) view.name
        (ap is_some (sym (get-from_sorted name_cmp (map named_table catalogue.tables) view.name (to_T (is_sorted name_cmp (map named_table catalogue.tables)) tables_rise))) ∙ told.1));
  }

  pub meant : AreMeant catalogue
  meant = record {
    routes = routes_meant;
    tables = record {
      in_order = listed.tables;
      each = each_table;
      few = few_back named_table catalogue.tables TABLES tables_rise is.limits.tables;
    };
    indexes = record {
      in_order = listed.indexes;
      each = each_index;
      few = few_back (named_index catalogue.tables) catalogue.indexes INDEXES indexes_rise is.limits.indexes;
    };
    views = record {
      in_order = listed.views;
      each = each_of (λ (view : ViewItem). IsName view.name × (has (state_of catalogue).tables view.name ≡ false)) (IsView catalogue.tables) view_meant catalogue.views listed.view_names;
      few = listed.few_views;
    };
    alignments = record {
      in_order = listed.alignments;
      each = each_alignment;
      few = few_back (named_alignment catalogue.routes) catalogue.alignments ALIGNMENTS alignments_rise is.limits.alignments;
    };
  }

-- and what is said of them beside the state
pub listed_of : (catalogue : CatalogueItems) → AreMeant catalogue → AreListed catalogue
listed_of catalogue are = record {
  routes = are.routes.in_order;
  route_numbers = record {
    below = each_said (λ (route : RouteItem). route.number) (λ n. n < ROUTES) catalogue.routes are.routes.numbers_below;
    once = are.routes.numbers_once;
  };
  tables = are.tables.in_order;
  kinds = each_of IsTable (λ (table : TableItem). table.kind ≤ 1) (λ table is. is.kind) catalogue.tables are.tables.each;
  indexes = are.indexes.in_order;
  views = are.views.in_order;
  view_names = recursion_from_All (λ (view : ViewItem). IsName view.name × (has (state_of catalogue).tables view.name ≡ false)) catalogue.views
      (λ k d inside. (
        (All-from_recursion (IsView catalogue.tables) catalogue.views are.views.each k d inside).named,
        free_for_view catalogue are (get_or catalogue.views k d) (Contains-get_or catalogue.views k d inside),
      ));
  few_views = are.views.few;
  alignments = are.alignments.in_order;
}
