-- The parts of a state: what it has under names, and the maximal runs of its tables' facts.
use Rattle.std.specs.Prelude.{◌≡◌, ◌≢◌, ℕ, false, List, [], ◌∷◌, Some, Contains}
use Rattle.std.specs.List.{AllByRecursion}
use Rattle.std.specs.FinMap as names
use Rattle.rs_facts.specs.Fact.{Name, Names}
use Rattle.rs_facts.specs.Query.{RouteEnds, Table, Piece}
use Rattle.rs_facts.specs.Runs.{Stretch, IsMaximalRun}
use Rattle.rs_planning.specs.Basis.{IndexedColumn}
use Rattle.rs_syntax.specs.Tree.{QueryTree}
use Rattle.rs_machine.specs.State.{State}
use Rattle.rs_machine.specs.Opening.{names_query}

-- ---- what is listed

-- no element stands twice
abbrev pub AreOnce : {X : Type 0} → List X → Type 0
AreOnce [] = Unit {0}
AreOnce (x ∷ xs) = AllByRecursion (λ other. x ≢ other) xs × AreOnce xs

-- The list has all that is so and nothing else, each once, in whatever order.
pub record AreAll {X : Type 0} (IsSo : X → Type 0) (list : List X) : Type 0 where
  pub once : AreOnce list
  pub each : AllByRecursion IsSo list
  pub complete : (x : X) → IsSo x → Contains list x

-- a name and what stands under it
abbrev pub IsUnder : {X : Type 0} → Names X → (Name × X) → Type 0
IsUnder things entry = names.get things entry.0 ≡ Some entry.1

-- ---- parts

-- a referent on its route
pub record PlacedReferent : Type 0 where
  pub route : Name
  pub name : Name
  pub measure : ℕ

-- a row of a table along a span of a route
pub record PlacedRow : Type 0 where
  pub table : Name
  pub route : Name
  pub span : Stretch

pub record Parts : Type 0 where
  pub routes : List (Name × RouteEnds)
  pub referents : List PlacedReferent
  pub tables : List (Name × Table)
  pub rows : List PlacedRow
  pub alignments : List (Name × List Piece)
  pub views : List (Name × QueryTree)
  pub indexes : List (Name × IndexedColumn)

-- ---- parts of a state

-- a referent of the route beside START
abbrev pub IsReferentOf : State → PlacedReferent → Type 0
IsReferentOf state one = names.get (state.referents one.route) one.name ≡ Some one.measure

-- a maximal run of the table's facts on the route
pub record IsRunOf (state : State) (one : PlacedRow) : Type 0 where
  pub table : Table
  pub there : names.get state.tables one.table ≡ Some table
  pub maximal : IsMaximalRun table.kind (table.facts one.route) one.span

-- no view names itself or one that comes later
abbrev pub NameViewsBefore : List (Name × QueryTree) → Type 0
NameViewsBefore [] = Unit {0}
NameViewsBefore (view ∷ more) = AllByRecursion (λ later. names_query later.0 view.1 ≡ false) (view ∷ more) × NameViewsBefore more

-- All parts of the state and no others, each once; each view after those that it names.
pub record ArePartsOf (state : State) (parts : Parts) : Type 0 where
  pub routes : AreAll (IsUnder state.routes) parts.routes
  pub referents : AreAll (IsReferentOf state) parts.referents
  pub tables : AreAll (IsUnder state.tables) parts.tables
  pub rows : AreAll (IsRunOf state) parts.rows
  pub alignments : AreAll (IsUnder state.alignments) parts.alignments
  pub views : AreAll (IsUnder state.views) parts.views
  pub views_in_order : NameViewsBefore parts.views
  pub indexes : AreAll (IsUnder state.indexes) parts.indexes
