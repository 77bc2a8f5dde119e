-- Names that are found by numbers, and measures that lie on routes.
use Rattle.std.proofs.Common.{◌≡◌, ◌<◌, ◌≤◌, ◌+◌, ◌==◌, ◌&&◌, ℕ, zero, suc, true, false, cond, List, [], ◌∷◌, length, map, drop, get_or, refl, sym, ap, subst, ◌∙◌, arith}
use Rattle.std.specs.Prelude.{Contains, ◌≢◌, nat_lt, string_bytes}
use Rattle.std.specs.List.{AllByRecursion}
use Rattle.std.proofs.lemmas.Bool.{eqb-false, eqb-true}
use Rattle.std.proofs.lemmas.List.Elements.{All-contains, All-from_recursion, recursion_from_All}
use Rattle.std.proofs.lemmas.List.{get_or_default}
use Rattle.std.proofs.lemmas.Option.{same_Some}
use Rattle.std.proofs.lemmas.Simd.{map-map}
use Rattle.std.proofs.Math.Seq.{drop-cons}
use Rattle.rs_catalog_meaning.specs.Meaning.{AreMeant, AreRoutes, IsPiece, columns_of, ends_of}
use Rattle.rs_catalog_meaning.specs.Places.{AreGivenOnce}
use Rattle.rs_catalog_meaning.specs.Stating.{name_with, named_alignment, table_with}
use Rattle.rs_catalog_pages.specs.Items.{AlignmentItem, CatalogueItems, IndexItem, PieceItem, RouteItem}
use Rattle.rs_catalog_pages.specs.Said.{said_column, said_route, said_table}
use Rattle.rs_catalog_pages.specs.declared.items.StoredColumn.{StoredColumn}
use Rattle.rs_catalog_pages.specs.declared.items.StoredRoute.{StoredRoute}
use Rattle.rs_catalog_pages.specs.declared.items.StoredTable.{StoredTable}
use Rattle.rs_catalog.specs.Definitions as catalog
use Rattle.rs_catalog.specs.Definitions.{AreDefinitions, IsColumnOf}
use Rattle.rs_facts.specs.Query.{RouteEnds}
use Rattle.rs_facts.specs.WellFormed.{ArePiecesOn}
use Rattle.rs_file_meaning.proofs.Named.{first_there, get_there, later_there}
use Rattle.rs_file_meaning.proofs.Picked.{same_numbered}
use Rattle.rs_file_meaning.specs.States.{named_index, tables_named}
use Rattle.rs_grammar.specs.declared.kind.TheConstants.{NAME_BYTES}
use Rattle.rs_machine.specs.Lawful.{IsRoute}
use Rattle.rs_machine.specs.declared.limits.TheConstants.{ROUTES}
use Rattle.rs_measure.specs.declared.measure.TheConstants.{GREATEST_MEASURE}
use Rattle.rs_page_owners.specs.Counts.{times}
use Rattle.rs_syntax.specs.Sound.{AreColumns}
use Rattle.rs_stored_catalog.specs.Made.{without_views}

at_each : {X : Type 0} (P : X → Type 0) (xs : List X) (x : X) → AllByRecursion P xs → Contains xs x → P x
at_each P xs x all there = All-contains P xs x (All-from_recursion P xs all) there

-- ---- numbers

same_number : (a b : ℕ) → a ≡ b → (a == b) ≡ true
same_number a b same = elim (a == b) as (λ x. (a == b) ≡ x → x ≡ true) [
  | true ↦ λ e. refl
  | false ↦ λ e. absurd (eqb-false a b e same)
] refl

other_number : (a b : ℕ) → a ≢ b → (a == b) ≡ false
other_number a b other = elim (a == b) as (λ x. (a == b) ≡ x → x ≡ false) [
  | true ↦ λ e. absurd (other (eqb-true a b e))
  | false ↦ λ e. refl
] refl

-- ---- lists

each_there : {X : Type 0} (P : X → Type 0) (xs : List X) → ((x : X) → Contains xs x → P x) → AllByRecursion P xs
each_there P xs all = recursion_from_All P xs (λ k d inside. all (get_or xs k d) (k, inside, sym (get_or_default xs k d (get_or xs k d) inside)))

numbers_below : (routes : List StoredRoute) → AllByRecursion (λ (r : RouteItem). r.number < ROUTES) (map said_route routes) → AllByRecursion (λ n. n < ROUTES) (map (λ (r : StoredRoute). r.number) routes)
numbers_below [] all = tt
numbers_below (route ∷ routes) all = (all.0, numbers_below routes all.1)

pub numbers_once : (routes : List StoredRoute) → AreRoutes (map said_route routes) → AreGivenOnce (map (λ (r : StoredRoute). r.number) routes)
numbers_once routes are = record {
  below = numbers_below routes are.numbers_below;
  once = λ n. subst (λ numbers. times numbers n ≤ 1) (map-map (λ (r : RouteItem). r.number) said_route routes) (are.numbers_once n);
}

-- ---- columns

pub column_named : (columns : List StoredColumn) (i : ℕ) (column : StoredColumn) → i < length columns → get_or columns i column ≡ column → AreColumns (columns_of (map said_column columns))
    → length (string_bytes column.name) ≤ NAME_BYTES
column_named [] i column inside is are = absurd (omega (arith, inside))
column_named (first ∷ columns) zero column inside is are = subst (λ (c : StoredColumn). length (string_bytes c.name) ≤ NAME_BYTES) is are.0.short
column_named (first ∷ columns) (suc i) column inside is are = column_named columns i column (omega (arith, inside)) is are.2

-- ---- tables by number and column

pub table_skipped : (tables : List StoredTable) (i : ℕ) (table : StoredTable) (number column : ℕ) → i < length tables → table ≡ get_or tables i table
    → (((said_table table).number == number) && nat_lt column (length (said_table table).columns)) ≡ false
    → table_with (map said_table (drop i tables)) number column ≡ table_with (map said_table (drop (i + 1) tables)) number column
table_skipped tables i table number column inside is other =
    let next : suc i ≡ i + 1 = omega arith in
    ap (λ l. table_with (map said_table l) number column) (drop-cons tables i table inside ∙ ap (λ t. t ∷ drop (suc i) tables) (sym is))
    ∙ ap (λ b. cond b (said_table table).name (table_with (map said_table (drop (suc i) tables)) number column)) other
    ∙ ap (λ n. table_with (map said_table (drop n tables)) number column) next

pub table_found : (tables : List StoredTable) (i : ℕ) (table : StoredTable) (number column : ℕ) → i < length tables → table ≡ get_or tables i table
    → (((said_table table).number == number) && nat_lt column (length (said_table table).columns)) ≡ true
    → table_with (map said_table (drop i tables)) number column ≡ (said_table table).name
table_found tables i table number column inside is same =
    ap (λ l. table_with (map said_table l) number column) (drop-cons tables i table inside ∙ ap (λ t. t ∷ drop (suc i) tables) (sym is))
    ∙ ap (λ b. cond b (said_table table).name (table_with (map said_table (drop (suc i) tables)) number column)) same

-- ---- routes by number

record IsFirstWith (routes : List RouteItem) (number : ℕ) : Type 0 where
  item : RouteItem
  there : Contains routes item
  numbered : item.number ≡ number
  named : name_with routes number ≡ item.name

first_with : (routes : List RouteItem) (k : ℕ) (route : RouteItem) → k < length routes → get_or routes k route ≡ route → IsFirstWith routes route.number
first_with [] k route inside is = absurd (omega (arith, inside))
first_with (first ∷ routes) zero route inside is = record {
  item = first;
  there = first_there first routes;
  numbered = ap (λ (r : RouteItem). r.number) is;
  named = ap (λ b. cond b first.name (name_with routes route.number)) (same_number first.number route.number (ap (λ (r : RouteItem). r.number) is));
}
first_with (first ∷ routes) (suc k) route inside is =
    let rest = first_with routes k route (omega (arith, inside)) is in
    elim (first.number == route.number) as (λ b. (first.number == route.number) ≡ b → IsFirstWith (first ∷ routes) route.number) [
      | true ↦ λ same. record {
        item = first;
        there = first_there first routes;
        numbered = eqb-true first.number route.number same;
        named = ap (λ b. cond b first.name (name_with routes route.number)) same;
      }
      | false ↦ λ other. record {
        item = rest.item;
        there = later_there first rest.item routes rest.there;
        numbered = rest.numbered;
        named = ap (λ b. cond b first.name (name_with routes route.number)) other ∙ rest.named;
      }
    ] refl

pub name_with-there : (routes : List RouteItem) (route : RouteItem) → AreRoutes routes → Contains routes route → name_with routes route.number ≡ route.name
name_with-there routes route are there =
    let first = first_with routes there.0 route there.1 there.2 in
    let same = same_numbered (λ (r : RouteItem). r.number) routes first.item route first.there there first.numbered (are.numbers_once first.item.number) in
    first.named ∙ ap (λ (r : RouteItem). r.name) same

pub name_with-none : (routes : List StoredRoute) (number : ℕ) → AllByRecursion (λ (route : StoredRoute). route.number ≢ number) routes → name_with (map said_route routes) number ≡ []
name_with-none [] number none = refl
name_with-none (route ∷ routes) number none =
    ap (λ b. cond b (said_route route).name (name_with (map said_route routes) number)) (other_number route.number number none.0) ∙ name_with-none routes number none.1

-- ---- measures on routes

pub piece_measures : (routes : List RouteItem) (piece : PieceItem) → AreRoutes routes → IsPiece routes piece
    → (piece.from ≤ GREATEST_MEASURE) × (piece.to ≤ GREATEST_MEASURE) × (piece.onto ≤ GREATEST_MEASURE)
piece_measures routes piece are is =
    let one = same_Some is.lies.first (ends_of is.first) (sym is.lies.first_there ∙ get_there (λ (r : RouteItem). r.name) ends_of routes is.first are.in_order is.first_there) in
    let other = same_Some is.lies.second (ends_of is.second) (sym is.lies.second_there ∙ get_there (λ (r : RouteItem). r.name) ends_of routes is.second are.in_order is.second_there) in
    let first = at_each (λ (r : RouteItem). IsRoute r.name (ends_of r)) routes is.first are.each is.first_there in
    let second = at_each (λ (r : RouteItem). IsRoute r.name (ends_of r)) routes is.second are.each is.second_there in
    let a = ap (λ (e : RouteEnds). e.finish) one in
    let b = ap (λ (e : RouteEnds). e.finish) other in (
      omega (arith, is.lies.some, is.lies.upto_finish, a, first.end_is_measure),
      omega (arith, is.lies.upto_finish, a, first.end_is_measure),
      omega (arith, is.lies.onto_finish, b, second.end_is_measure),
    )

-- ---- what indexes and alignments are of

module _ (catalogue : CatalogueItems) (meant : AreMeant catalogue) (are : AreDefinitions (without_views catalogue)) where
  columns_there : (index : IndexItem) → Contains catalogue.indexes index
      → IsColumnOf (tables_named catalogue.tables) (table_with catalogue.tables index.table index.column) index.table index.column
  columns_there index there =
      (are.indexes index.name (named_index catalogue.tables index).1
      (get_there (λ (i : IndexItem). i.name) (λ i. (named_index catalogue.tables i).1) catalogue.indexes index meant.indexes.in_order there)).1

  pieces_lie : (alignment : AlignmentItem) → Contains catalogue.alignments alignment
      → ArePiecesOn (catalog.routes_of (without_views catalogue)) (named_alignment catalogue.routes alignment).1
  pieces_lie alignment there =
      are.alignments alignment.name (named_alignment catalogue.routes alignment).1
      (get_there (λ (a : AlignmentItem). a.name) (λ a. (named_alignment catalogue.routes a).1) catalogue.alignments alignment meant.alignments.in_order there)

  pub each_column_there : AllByRecursion (λ (index : IndexItem). IsColumnOf (tables_named catalogue.tables) (table_with catalogue.tables index.table index.column) index.table index.column) catalogue.indexes
  each_column_there = each_there (λ (index : IndexItem). IsColumnOf (tables_named catalogue.tables) (table_with catalogue.tables index.table index.column) index.table index.column)
      catalogue.indexes columns_there

  pub each_lies : AllByRecursion (λ (alignment : AlignmentItem). ArePiecesOn (catalog.routes_of (without_views catalogue)) (named_alignment catalogue.routes alignment).1) catalogue.alignments
  each_lies = each_there (λ (alignment : AlignmentItem). ArePiecesOn (catalog.routes_of (without_views catalogue)) (named_alignment catalogue.routes alignment).1) catalogue.alignments pieces_lie
