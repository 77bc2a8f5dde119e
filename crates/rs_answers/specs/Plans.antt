-- What passes from a query's check to its planning, and from there to the evaluation of its plan.
use Rattle.std.specs.Prelude.{◌≡◌, ℕ, ◌≤◌, List, Some}
use Rattle.std.specs.FinMap as names
use Rattle.rs_facts.specs.Fact.{Name}
use Rattle.rs_facts.specs.Query.{Query, kind_of, rows_at}
use Rattle.rs_facts.specs.Runs.{Stretch}
use Rattle.rs_facts.specs.WellFormed.{IsWellFormed}
use Rattle.rs_planning.specs.Checked.{NamesItsColumns, nodes_of}
use Rattle.rs_machine.specs.declared.limits.TheConstants.{NODES}
use Rattle.rs_machine.specs.State.{State, world_of}
use Rattle.rs_catalog.specs.Definitions.{Numbered, RouteItem, Definitions, world_from}
use Rattle.rs_catalog.specs.Referents.{HeldReferents}
use Rattle.rs_checker.specs.declared.checked.Checked.{Checked}
use Rattle.rs_checker.specs.CheckedView.{query_of, named_in}
use Rattle.rs_checker.specs.Numbers.{AreNumberedIn}
use Rattle.rs_plan.specs.declared.plan.Plan.{Plan}
use Rattle.rs_exec.specs.Meaning.{rows_in, kind_in}
use Rattle.rs_exec.specs.Snapshot.{Snapshot}
use Rattle.rs_answers.specs.Present.{IsPresent}

-- A query can be planned. Whatever spans tables have, it is well formed, names columns of its operands alone, and is of the
-- kind that is told. It is no larger than a query may be, and its tables and routes have the numbers of the definitions.
pub record CanBePlanned (definitions : Definitions) (checked : Checked) : Type 0 where
  pub well_formed : (spans : ℕ → ℕ → List Stretch) → IsWellFormed (world_from definitions spans) (query_of checked.query)
  pub named : (spans : ℕ → ℕ → List Stretch) → NamesItsColumns (world_from definitions spans) (query_of checked.query)
  pub few : nodes_of (query_of checked.query) ≤ NODES
  pub kind : (spans : ℕ → ℕ → List Stretch) → checked.kind ≡ kind_of (world_from definitions spans) (query_of checked.query)
  pub numbers : AreNumberedIn definitions (named_in checked.query)

-- in the state, a plan has on each route of the snapshot, by its number, the rows that the query has there by the route's name, and
-- it is of the query's kind
pub record HasRowsOfQuery (definitions : Definitions) (query : Query) (plan : Plan) (state : State) (snapshot : Snapshot) : Type 0 where
  pub formed : IsWellFormed (world_of state) query
  pub kind : kind_in plan ≡ kind_of (world_of state) query
  pub rows : (route : Name) (on : RouteItem) → names.get definitions.routes route ≡ Some on
      → (k : ℕ) → rows_in plan snapshot on.number k ≡ rows_at (world_of state) query route k

-- a plan for the query, in each state of these definitions
pub record IsPlanFor (definitions : Definitions) (query : Query) (plan : Plan) : Type 0 where
  pub means : (referents : Numbered HeldReferents) (state : State) (snapshot : Snapshot) → IsPresent definitions referents state snapshot
      → HasRowsOfQuery definitions query plan state snapshot
