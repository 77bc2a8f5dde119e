-- The catalogue in memory that was made from a file's definitions lists them as they were.
use Rattle.std.proofs.Common.{◌≡◌, ◌≤◌, ◌==◌, ℕ, zero, suc, true, false, List, [], ◌∷◌, map, refl, sym, ap, ◌∙◌, arith}
use Rattle.std.specs.Prelude.{Contains, if◌then◌else◌}
use Rattle.std.specs.List.{AllByRecursion, AllZip}
use Rattle.std.specs.FinMap as names
use Rattle.std.proofs.lemmas.Bool.{eqb-true}
use Rattle.rs_catalog.specs.Definitions as catalog
use Rattle.rs_catalog.specs.Definitions.{Definitions}
use Rattle.rs_catalog_meaning.specs.Meaning.{AreMeant, AreRoutes, IsAlignment, IsPiece, IsTable, column_of, columns_of}
use Rattle.rs_catalog_meaning.specs.Stating as stating
use Rattle.rs_catalog_meaning.specs.Stating.{alignments_of, name_with, named_alignment}
use Rattle.rs_catalog_pages.specs.Items.{AlignmentItem, CatalogueItems, ColumnItem, IndexItem, PieceItem, RouteItem, TableItem, ViewItem, kind_of}
use Rattle.rs_stored_catalog.specs.Listing.{kind_code, listed_alignment, listed_column, listed_index, listed_piece, listed_route, listed_table, listed_view, listing_of, number_found, type_code}
use Rattle.rs_facts.specs.Fact.{Name, Names}
use Rattle.rs_facts.specs.Query.{Piece}
use Rattle.rs_file_meaning.specs.States.{AreDefinitionsAt, IsViewOf, named_index, named_route, named_table, routes_named}
use Rattle.rs_stored_catalog.proofs.Found.{name_with-there}
use Rattle.rs_stored_catalog.proofs.ListedMaps.{each_of, items_back, map-back}
use Rattle.rs_file_meaning.proofs.Named.{get_there}
use Rattle.rs_file_meaning.proofs.Picked.{born_all}
use Rattle.rs_value.specs.declared.column.ColumnType.TheVariants as types

each_refl : {X : Type 0} (f : X → X) → ((x : X) → f x ≡ x) → (xs : List X) → AllByRecursion (λ x. f x ≡ x) xs
each_refl f same [] = tt
each_refl f same (x ∷ xs) = (same x, each_refl f same xs)

-- ---- tables

kind_back : (code : ℕ) → code ≤ 1 → kind_code (kind_of code) ≡ code
kind_back zero few = refl
kind_back (suc zero) few = refl
kind_back (suc (suc code)) few = absurd (omega (arith, few))

type_back : (type : ℕ) → type_code (if type == 0 then types.Int else types.Text type) ≡ type
type_back type = elim (type == 0) as (λ b. (type == 0) ≡ b → type_code (if b then types.Int else types.Text type) ≡ type) [
  | true ↦ λ e. sym (eqb-true type 0 e)
  | false ↦ λ e. refl
] refl

columns_back : (columns : List ColumnItem) → map listed_column (columns_of columns) ≡ columns
columns_back columns = map-back listed_column column_of columns (each_refl (λ column. listed_column (column_of column)) (λ column i. record { name = column.name; type = type_back column.type i }) columns)

table_back : (table : TableItem) → IsTable table → listed_table (named_table table) ≡ table
table_back table is = λ i. record { name = table.name; number = table.number; kind = kind_back table.kind is.kind i; columns = columns_back table.columns i }

-- ---- views

views_back : (views : List ViewItem) (entries : List (Name × catalog.ViewItem)) → AllZip IsViewOf views entries → map listed_view entries ≡ views
views_back [] [] all = refl
views_back [] (entry ∷ entries) all = absurd all
views_back (view ∷ views) [] all = absurd all
views_back (view ∷ views) (entry ∷ entries) all = λ i. record { name = all.0.named i; text = all.0.text i } ∷ views_back views entries all.1 i

-- ---- alignments

module _ (routes : List RouteItem) (are : AreRoutes routes) where
  number_back : (route : RouteItem) (number : ℕ) → Contains routes route → route.number ≡ number → number_found (names.get (routes_named routes) (name_with routes number)) ≡ number
  number_back route number there same =
      ap (λ n. number_found (names.get (routes_named routes) (name_with routes n))) (sym same)
      ∙ ap (λ name. number_found (names.get (routes_named routes) name)) (name_with-there routes route are there)
      ∙ ap number_found (get_there (λ (r : RouteItem). r.name) (λ r. (named_route r).1) routes route are.in_order there)
      ∙ same

  piece_back : (piece : PieceItem) → IsPiece routes piece → listed_piece (routes_named routes) (stating.piece_of routes piece) ≡ piece
  piece_back piece is = λ i. record {
    from_route = number_back is.first piece.from_route is.first_there is.first_number i;
    from = piece.from;
    to = piece.to;
    onto_route = number_back is.second piece.onto_route is.second_there is.second_number i;
    onto = piece.onto;
  }

  alignment_back : (alignment : AlignmentItem) → IsAlignment routes alignment → listed_alignment (routes_named routes) (named_alignment routes alignment) ≡ alignment
  alignment_back alignment is = λ i. record {
    name = alignment.name;
    pieces = map-back (listed_piece (routes_named routes)) (stating.piece_of routes) alignment.pieces
        (each_of (IsPiece routes) (λ piece. listed_piece (routes_named routes) (stating.piece_of routes piece) ≡ piece) piece_back alignment.pieces is.lie) i;
  }

-- ---- all of them

module _ (version : ℕ) (catalogue : CatalogueItems) (definitions : Definitions) (meant : AreMeant catalogue) (born : AllByRecursion (λ (route : RouteItem). route.born ≤ version) catalogue.routes)
    (are : AreDefinitionsAt version catalogue definitions) where
  routes_kept : definitions.routes ≡ routes_named catalogue.routes
  routes_kept = are.routes ∙ ap routes_named (born_all version catalogue.routes born)

  routes_listed : map listed_route (names.entries definitions.routes) ≡ catalogue.routes
  routes_listed =
      ap (λ (routes : Names catalog.RouteItem). map listed_route (names.entries routes)) routes_kept
      ∙ items_back (λ (r : RouteItem). r.name) (λ r. (named_route r).1) listed_route catalogue.routes meant.routes.in_order
      (each_refl (λ r. listed_route (named_route r)) (λ r. refl) catalogue.routes)

  tables_listed : map listed_table (names.entries definitions.tables) ≡ catalogue.tables
  tables_listed =
      ap (λ (tables : Names catalog.TableItem). map listed_table (names.entries tables)) are.tables
      ∙ items_back (λ (t : TableItem). t.name) (λ t. (named_table t).1) listed_table catalogue.tables meant.tables.in_order
      (each_of IsTable (λ t. listed_table (named_table t) ≡ t) table_back catalogue.tables meant.tables.each)

  indexes_listed : map listed_index (names.entries definitions.indexes) ≡ catalogue.indexes
  indexes_listed =
      ap (λ (indexes : Names catalog.IndexItem). map listed_index (names.entries indexes)) are.indexes
      ∙ items_back (λ (x : IndexItem). x.name) (λ x. (named_index catalogue.tables x).1) listed_index catalogue.indexes meant.indexes.in_order
      (each_refl (λ x. listed_index (named_index catalogue.tables x)) (λ x. refl) catalogue.indexes)

  alignments_listed : map (listed_alignment definitions.routes) (names.entries definitions.alignments) ≡ catalogue.alignments
  alignments_listed =
      ap (λ (routes : Names catalog.RouteItem). map (listed_alignment routes) (names.entries definitions.alignments)) routes_kept
      ∙ ap (λ (alignments : Names (List Piece)). map (listed_alignment (routes_named catalogue.routes)) (names.entries alignments)) are.alignments
      ∙ items_back (λ (a : AlignmentItem). a.name) (λ a. (named_alignment catalogue.routes a).1) (listed_alignment (routes_named catalogue.routes)) catalogue.alignments meant.alignments.in_order
      (each_of (IsAlignment catalogue.routes) (λ a. listed_alignment (routes_named catalogue.routes) (named_alignment catalogue.routes a) ≡ a) (alignment_back catalogue.routes meant.routes)
      catalogue.alignments meant.alignments.each)

  pub listed_back : listing_of definitions ≡ catalogue
  listed_back = λ i. record {
    routes = routes_listed i;
    tables = tables_listed i;
    indexes = indexes_listed i;
    views = views_back catalogue.views (names.entries definitions.views) are.views i;
    alignments = alignments_listed i;
  }
