-- What plans are chosen by: the numbers of records of a state's tables, and its indexes.
use Rattle.std.specs.Prelude.{◌≡◌, ℕ, List, map, Some}
use Rattle.std.specs.FinMap as names
use Rattle.rs_facts.specs.Fact.{Name, Names}
use Rattle.rs_planning.specs.Basis.{runs_counted}
use Rattle.rs_machine.specs.State.{State, world_of}
use Rattle.rs_catalog.specs.Definitions.{TableItem, IndexItem, Definitions}
use Rattle.rs_plan.specs.Counted.{Counted}
use Rattle.rs_plan.specs.declared.counts.Index.{Index}
use Rattle.rs_answers.specs.Present.{IsDefinedBy}

-- an index: its name, its number, its table's number, and the place of its column
abbrev pub SeenIndex : Type 0
SeenIndex = Name × (ℕ × (ℕ × ℕ))

abbrev pub index_seen : Index → SeenIndex
index_seen index = (index.name.bytes, (index.number, (index.table, index.column)))

abbrev pub item_seen : Name × IndexItem → SeenIndex
item_seen entry = (entry.0, (entry.1.number, (entry.1.table_number, entry.1.column)))

-- the indexes that are defined, in the order of their names
unfoldable pub indexes_kept : Definitions → List SeenIndex
indexes_kept definitions = map item_seen (names.entries definitions.indexes)

-- what is counted are the indexes that are defined
abbrev pub HasIndexes : Definitions → Counted → Type 0
HasIndexes definitions counted = map index_seen counted.indexes ≡ indexes_kept definitions

-- what is counted are the maximal runs of each table of a state of these definitions
pub record AreCounted (definitions : Definitions) (state : State) (counted : Counted) : Type 0 where
  pub referents : ℕ → Names ℕ
  pub defined : IsDefinedBy definitions referents state
  pub records : (name : Name) (table : TableItem) → names.get definitions.tables name ≡ Some table → counted.records table.number ≡ runs_counted (world_of state) name
