-- Where the spans of tables may lie, by the numbers of tables and routes.
use Rattle.std.specs.Prelude.{◌≡◌, ℕ, ◌+◌, true, List, [], length, Some}
use Rattle.std.specs.List.{AllByRecursion}
use Rattle.std.specs.FinMap as names
use Rattle.rs_value.specs.declared.column.Kind.{Kind}
use Rattle.rs_value.specs.declared.column.Kind.TheVariants.{Point, Line}
use Rattle.rs_value.specs.Row.{Row}
use Rattle.rs_facts.specs.Fact.{Name, Places, contains}
use Rattle.rs_facts.specs.Insert.{within}
use Rattle.rs_facts.specs.Query.{RouteEnds}
use Rattle.rs_facts.specs.Runs.{Stretch}
use Rattle.rs_facts.specs.Spans.{places_of, AreKept}
use Rattle.rs_catalog.specs.Definitions.{RouteItem, TableItem, Definitions, IsFree}

-- the first place after all those at which a row may hold: of a route's two ends, the second holds points alone
abbrev pub behind : Kind → RouteEnds → ℕ
behind Line ends = ends.finish
behind Point ends = ends.finish + 1

-- wherever a row of this kind holds, it lies on the route
unfoldable pub LieOn : Kind → RouteEnds → Places → Type 0
LieOn kind ends places = (k : ℕ) (row : Row) → contains (places k) row ≡ true → within ends.start (behind kind ends) k ≡ true

-- The spans of a table on a route by its number: in the form in which they are kept, each row as wide as the table.
pub record AreSpansOf (table : TableItem) (spans : List Stretch) : Type 0 where
  pub kept : AreKept table.kind spans
  pub wide : AllByRecursion (λ span. length span.row ≡ length table.columns) spans

-- The spans of each table on each route are its spans and lie on the route; where no table or no route has the number
-- there are none.
pub record AreEventsOf (definitions : Definitions) (spans_on : ℕ → ℕ → List Stretch) : Type 0 where
  pub spans : (name : Name) (table : TableItem) → names.get definitions.tables name ≡ Some table → (route : ℕ) → AreSpansOf table (spans_on table.number route)
  pub on_routes : (name : Name) (table : TableItem) → names.get definitions.tables name ≡ Some table
      → (other : Name) (route : RouteItem) → names.get definitions.routes other ≡ Some route
      → LieOn table.kind route.ends (places_of (spans_on table.number route.number))
  pub no_table : (table : ℕ) → IsFree (λ item. item.number) definitions.tables table → (route : ℕ) → spans_on table route ≡ []
  pub no_route : (route : ℕ) → IsFree (λ item. item.number) definitions.routes route → (table : ℕ) → spans_on table route ≡ []
