-- A state as it is known by numbers: the definitions, the referents, and the rows and the ends of a snapshot.
use Rattle.std.specs.Prelude.{◌≡◌, ℕ, List, length, Some}
use Rattle.std.specs.FinMap as names
use Rattle.rs_facts.specs.Fact.{Name, Names}
use Rattle.rs_facts.specs.Query.{facts_of}
use Rattle.rs_facts.specs.Runs.{Stretch}
use Rattle.rs_machine.specs.Lawful.{IsLawful}
use Rattle.rs_machine.specs.State.{State}
use Rattle.rs_catalog.specs.Definitions.{Numbered, RouteItem, TableItem, Definitions, Rest, state_from}
use Rattle.rs_catalog.specs.Referents.{HeldReferents, referents_on}
use Rattle.rs_exec.specs.Snapshot.{NumberedTable, Snapshot}

-- the state has these definitions, and these referents by the routes' numbers
pub record IsDefinedBy (definitions : Definitions) (referents : ℕ → Names ℕ) (state : State) : Type 0 where
  pub spans : ℕ → ℕ → List Stretch
  pub rest : Rest
  pub made : state ≡ state_from definitions referents spans rest

abbrev pub by_number : TableItem → NumberedTable
by_number table = record { number = table.number; kind = table.kind; width = length table.columns }

-- the rows of each table on each route, by their numbers, are the facts that the state's table of that name has there
pub record HasRowsOf (definitions : Definitions) (state : State) (snapshot : Snapshot) : Type 0 where
  pub rows : (name : Name) (table : TableItem) → names.get definitions.tables name ≡ Some table
      → (route : Name) (on : RouteItem) → names.get definitions.routes route ≡ Some on
      → (k : ℕ) → snapshot.rows (by_number table) on.number k ≡ facts_of (names.get state.tables name) route k

-- each route has its ends, by its number
abbrev pub HasEndsOf : Definitions → Snapshot → Type 0
HasEndsOf definitions snapshot = (route : Name) (on : RouteItem) → names.get definitions.routes route ≡ Some on → snapshot.ends on.number ≡ Some on.ends

-- A lawful state that has these definitions, these referents, and the rows and the ends of the snapshot.
pub record IsPresent (definitions : Definitions) (referents : Numbered HeldReferents) (state : State) (snapshot : Snapshot) : Type 0 where
  pub defined : IsDefinedBy definitions (referents_on referents) state
  pub rows : HasRowsOf definitions state snapshot
  pub ends : HasEndsOf definitions snapshot
  pub lawful : IsLawful state
