-- What holds of plans, whatever they are chosen by.
use Rattle.std.specs.Prelude.{◌≡◌, ◌≢◌, ◌↔◌, ℕ, ◌+◌, length, sum_by, false, IsTrue, List, Some, None, IsPermutation, IsSortedByKey}
use Rattle.std.specs.declared.cmp.Ordering.TheVariants.{Less}
use Rattle.std.specs.FinMap as names
use Rattle.std.specs.List.{AllByRecursion}
use Rattle.std.specs.List.Sorted.{IsStableByKey}
use Rattle.std.specs.Ordering.{nat_cmp}
use Rattle.rs_facts.specs.Fact.{Name, name_cmp}
use Rattle.rs_facts.specs.Condition.{Condition}
use Rattle.rs_facts.specs.Query.{RouteEnds, Table, World, Query, rows_at, kind_of}
use Rattle.rs_facts.specs.Runs.{Stretch, LieWithin}
use Rattle.rs_facts.specs.Spans.{AreAllRunsOf}
use Rattle.rs_facts.specs.WellFormed.{IsWellFormed, width_of}
use Rattle.rs_planning.specs.Basis.{IndexedColumn, Basis, runs_counted}
use Rattle.rs_planning.specs.Checked.{NamesItsColumns, RowsHaveTheirWidth}
use Rattle.rs_planning.specs.Plan.{Plan, plan_rows_at, plan_kind, plan_width}
use Rattle.rs_planning.specs.WellFormedPlan.{IsWellFormedPlan}
use Rattle.rs_planning.specs.Rule.{serves, index_for, PlacedOperand, weight, lightest_first, plan_of}

-- the plan has the query's rows at each thousandth of each route, its columns in the written order
pub record Means (world : World) (plan : Plan) (query : Query) : Type 0 where
  pub rows : (route : Name) (k : ℕ) → plan_rows_at world plan route k ≡ rows_at world query route k
  pub kind : plan_kind world plan ≡ kind_of world query
  pub width : plan_width world plan ≡ width_of world query

-- the plan of a checked query means it, whatever the record counts and the indexes
abbrev pub PlansMeanTheirQueries : Type 0
PlansMeanTheirQueries = (basis : Basis) (query : Query) → RowsHaveTheirWidth basis.world → IsWellFormed basis.world query → NamesItsColumns basis.world query → Means basis.world (plan_of basis query) query

-- and is well formed
abbrev pub PlansAreWellFormed : Type 0
PlansAreWellFormed = (basis : Basis) (query : Query) → IsWellFormed basis.world query → NamesItsColumns basis.world query → IsWellFormedPlan basis.world (plan_of basis query)

-- ---- how many records a table has

-- on each route the spans are all the maximal runs of the table, whose rows lie on the route
abbrev pub AreItsRuns : Table → List (Name × RouteEnds) → (Name → List Stretch) → Type 0
AreItsRuns table routes spans_on = AllByRecursion (λ route. AreAllRunsOf table.kind (table.facts route.0) (spans_on route.0) × LieWithin route.1.start (route.1.finish + 1) (table.facts route.0)) routes

-- the record count of a table is the number of its maximal runs on all routes
abbrev pub RecordsAreRuns : Type 0
RecordsAreRuns = (world : World) (name : Name) (table : Table) (spans_on : Name → List Stretch) → names.get world.tables name ≡ Some table → AreItsRuns table (names.entries world.routes) spans_on
    → runs_counted world name ≡ sum_by (λ route. length (spans_on route.0)) (names.entries world.routes)

-- ---- the index of a leaf

-- the index serves, and none of a lesser name does
pub record IsLeastIndex (basis : Basis) (table : Name) (conditions : List Condition) (name : Name) : Type 0 where
  pub of : IndexedColumn
  pub there : names.get basis.indexes name ≡ Some of
  pub serves_it : IsTrue (serves table conditions of)
  pub least : (other : Name) (its : IndexedColumn) → names.get basis.indexes other ≡ Some its → IsTrue (serves table conditions its) → name_cmp other name ≢ Less

-- the index of a leaf is the one of the least name among those that serve
abbrev pub TheLeastIndexIsTaken : Type 0
TheLeastIndexIsTaken = (basis : Basis) (table : Name) (conditions : List Condition) (name : Name) → (index_for basis table conditions ≡ Some name) ↔ IsLeastIndex basis table conditions name

-- it has none where none serves, and only there
abbrev pub NoIndexWhereNoneServes : Type 0
NoIndexWhereNoneServes = (basis : Basis) (table : Name) (conditions : List Condition) → (index_for basis table conditions ≡ None)
    ↔ ((name : Name) (of : IndexedColumn) → names.get basis.indexes name ≡ Some of → serves table conditions of ≡ false)

-- ---- the order of operands

abbrev pub weight_of : (Name → ℕ) → PlacedOperand → ℕ
weight_of record_count one = weight record_count one.plan

-- the same operands, none after a heavier one, and those of one weight as they were
pub record AreByWeight (record_count : Name → ℕ) (placed sorted : List PlacedOperand) : Type 0 where
  pub same : IsPermutation placed sorted
  pub rising : IsSortedByKey (weight_of record_count) nat_cmp sorted
  pub stable : IsStableByKey (weight_of record_count) nat_cmp placed sorted

abbrev pub OperandsGoByWeight : Type 0
OperandsGoByWeight = (record_count : Name → ℕ) (placed : List PlacedOperand) → AreByWeight record_count placed (lightest_first record_count placed)

-- what any stable sort by weight gives is this one list
abbrev pub StableSortsAgree : Type 0
StableSortsAgree = (record_count : Name → ℕ) (placed sorted : List PlacedOperand) → AreByWeight record_count placed sorted → sorted ≡ lightest_first record_count placed
