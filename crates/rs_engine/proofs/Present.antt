-- The state that an engine stands for as a source, and what its plans are chosen by.
use Rattle.std.proofs.Common.{◌≡◌, ◌∙◌, ℕ, List, Some, ap, arith, subst, sym}
use Rattle.std.specs.FinMap as names
use Rattle.rs_answers.specs.Counts.{AreCounted}
use Rattle.rs_answers.specs.Present.{IsDefinedBy, IsPresent}
use Rattle.rs_catalog.specs.Definitions.{RouteItem, TableItem}
use Rattle.rs_catalog.specs.Referents.{referents_on}
use Rattle.rs_disk.specs.declared.disk.Disk as disk
use Rattle.rs_exec.specs.Snapshot.{Snapshots}
use Rattle.rs_facts.specs.Fact.{Name, Names}
use Rattle.rs_facts.specs.Query.{facts_of}
use Rattle.rs_engine.specs.Kept.{EngineState, IsMachine, seen_at, with_cursors}
use Rattle.rs_engine.specs.Laws.{StoreLaws}
use Rattle.rs_engine.specs.Living.{shown_live, tables_same}
use Rattle.rs_engine.specs.Reads.{IsSeenNow, StandsNow, counted_of}
use Rattle.rs_engine.proofs.Machines.{cursors_in, spans_of}
use Rattle.rs_file_meaning.specs.Seen.{born_by, referents_seen}
use Rattle.rs_file_meaning.specs.States.{routes_named}
use Rattle.rs_machine.specs.Served.{Machine}
use Rattle.rs_machine.specs.State.{State, world_of}
use Rattle.rs_plan.specs.declared.counts.Index.{Index}
use Rattle.rs_planning.specs.Basis.{IndexedColumn, present_basis, runs_counted}
use Rattle.rs_store_source.specs.Kept.{StandsIn, StoreState}
use Rattle.rs_store_source.specs.Reading.{living_of}
use Rattle.rs_store_source.specs.Shown.{Shows, numbered_as, shown_from}

module _ {D : Type 0} (d : disk.Ghosts D) where
  -- what laws say of a store that stands in a state
  abbrev pub StandsOnce : Type 0
  StandsOnce = (oldest from : ℕ) (store : StoreState D) (one other : State) → StandsIn d oldest store one → StandsIn d from store other → one ≡ other

  abbrev pub ShowsState : Type 0
  ShowsState = (oldest : ℕ) (store : StoreState D) (state : State) (stands : StandsIn d oldest store state)
      → Shows d oldest store (shown_from store.catalog stands.contents oldest store.file.accepted)

  abbrev pub ShowsFacts : Type 0
  ShowsFacts = (oldest : ℕ) (store : StoreState D) (snapshots : Snapshots) (shows : Shows d oldest store snapshots)
      → (name : Name) (item : TableItem) → names.get store.catalog.tables name ≡ Some item
      → (route : Name) (on : RouteItem) → names.get store.catalog.routes route ≡ Some on → (k : ℕ)
      → (snapshots store.file.accepted).rows (numbered_as item) on.number k ≡ facts_of (names.get shows.state.tables name) route k

  abbrev pub ShowsEnds : Type 0
  ShowsEnds = (oldest : ℕ) (store : StoreState D) (snapshots : Snapshots) → Shows d oldest store snapshots
      → (route : Name) (on : RouteItem) → names.get store.catalog.routes route ≡ Some on → (snapshots store.file.accepted).ends on.number ≡ Some on.ends

  abbrev pub CountsRuns : Type 0
  CountsRuns = (oldest : ℕ) (store : StoreState D) (state : State) → StandsIn d oldest store state
      → (name : Name) (item : TableItem) → names.get store.catalog.tables name ≡ Some item → (indexes : Names IndexedColumn)
      → (present_basis (world_of state) indexes).record_count name ≡ living_of store.file item.number

  module _ (laws : StoreLaws d) (engine : EngineState D) (machine : Machine) (is : IsMachine d engine machine) where
    -- the machine's state is that of what is in memory
    pub defined : IsDefinedBy engine.store.catalog (referents_on engine.store.referents) machine.state
    defined = record {
      spans = spans_of d engine machine is;
      rest = record { changes = engine.store.file.accepted; cursors = cursors_in d engine machine is };
      made = is.is ∙ ap (with_cursors (cursors_in d engine machine is)) (laws.state engine.oldest engine.store is.state is.stands);
    }

    -- what is shown at the version that was accepted last is the present of the state
    pub present_at : StandsOnce → ShowsState → ShowsFacts → ShowsEnds
        → IsPresent engine.store.catalog engine.store.referents machine.state (shown_from engine.store.catalog is.stands.contents engine.oldest engine.store.file.accepted engine.store.file.accepted)
    present_at once shown facts ends =
        let snapshots = shown_from engine.store.catalog is.stands.contents engine.oldest engine.store.file.accepted in
        let shows = shown engine.oldest engine.store is.state is.stands in
        record {
          defined = defined;
          rows = record {
            rows = λ name item there route on at k.
                facts engine.oldest engine.store snapshots shows name item there route on at k
                ∙ ap (λ (state : State). facts_of (names.get state.tables name) route k) (once engine.oldest engine.oldest engine.store shows.state is.state shows.stands is.stands)
                ∙ sym (ap (λ (state : State). facts_of (names.get state.tables name) route k) is.is);
          };
          ends = ends engine.oldest engine.store snapshots shows;
          lawful = is.lawful;
        }

    -- the engine stands for it there
    pub stands_at : StandsOnce → ShowsState → ShowsFacts → ShowsEnds → StandsNow d engine machine.state
    stands_at once shown facts ends = record {
      snapshots = shown_from engine.store.catalog is.stands.contents engine.oldest engine.store.file.accepted;
      shows = shown engine.oldest engine.store is.state is.stands;
      present = present_at once shown facts ends;
    }

    -- and so it is seen by that version
    pub seen_now : StandsOnce → ShowsState → ShowsFacts → ShowsEnds → IsSeenNow engine machine.state (seen_at is.stands.contents engine.store.file.accepted)
    seen_now once shown facts ends =
        let contents = is.stands.contents in
        let accepted = engine.store.file.accepted in
        let memory = is.stands.keeps.memory in
        let same : contents.directory.accepted ≡ accepted = is.stands.keeps.opened.accepted in
        record {
          defined = record {
            routes = ap (λ (version : ℕ). routes_named (born_by version contents.definitions.routes)) (sym same) ∙ sym memory.catalog.routes;
            referents = λ number. ap (λ (version : ℕ). referents_seen contents version number) (sym same) ∙ sym (memory.referents number);
          };
          present = subst (IsPresent engine.store.catalog engine.store.referents machine.state)
              (shown_live engine.store.catalog contents engine.oldest accepted accepted (omega (arith, is.stands.live, same)) (omega arith)
              ∙ tables_same engine.store.catalog contents memory.catalog.tables accepted)
              (present_at once shown facts ends);
        }

    -- its plans are chosen by the runs of its tables
    pub are_counted : CountsRuns → (indexes : List Index) → AreCounted engine.store.catalog machine.state (counted_of engine.store indexes)
    are_counted counts indexes = record {
      referents = referents_on engine.store.referents;
      defined = defined;
      records = λ name item there.
          sym (counts engine.oldest engine.store is.state is.stands name item there names.empty)
          ∙ sym (ap (λ (state : State). runs_counted (world_of state) name) is.is);
    }
