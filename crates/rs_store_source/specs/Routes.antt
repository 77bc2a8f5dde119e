-- The tables of a catalogue by their numbers and kinds, and which of them have spans on a route.
use Rattle.std.specs.Prelude.{◌≡◌, ℕ, Bool, true, false, List, [], ◌∷◌, Some, map}
use Rattle.std.specs.FinMap as names
use Rattle.rs_catalog.specs.Definitions.{Definitions, TableItem}
use Rattle.rs_disk.specs.declared.disk.Disk as disk
use Rattle.rs_facts.specs.Fact.{Name}
use Rattle.rs_facts.specs.Runs.{Stretch}
use Rattle.rs_file_meaning.specs.Seen.{spans_seen}
use Rattle.rs_machine.specs.State.{State}
use Rattle.rs_store.specs.Kept.{StandsIn, StoreState}
use Rattle.rs_store_source.specs.declared.routes.TableKey.{TableKey}

abbrev pub key_of : TableItem → TableKey
key_of item = record { number = item.number; kind = item.kind }

-- those of all tables, in the order of their names
abbrev pub table_keys : Definitions → List TableKey
table_keys definitions = map (λ entry. key_of entry.1) (names.entries definitions.tables)

abbrev pub has_some : List Stretch → Bool
has_some [] = false
has_some (span ∷ spans) = true

module _ {D : Type 0} (d : disk.Ghosts D) where
  -- whether the version that was accepted last sees a span of the table that has this number and this kind, in whatever state
  pub record HasSpansOf (store : StoreState D) (table : TableKey) (route : ℕ) (answer : Bool) : Type 0 where
    pub each : (oldest : ℕ) (state : State) (stands : StandsIn d oldest store state) (name : Name) (item : TableItem) → names.get store.catalog.tables name ≡ Some item
        → key_of item ≡ table → answer ≡ has_some (spans_seen stands.contents store.file.accepted item.number route)
