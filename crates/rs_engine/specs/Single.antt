-- An engine is one machine at the most.
use Rattle.std.proofs.Common.{◌≡◌, ◌∙◌, ℕ, List, [], ◌∷◌, ap, refl, sym}
use Rattle.std.specs.Prelude.{◌==◌, if◌then◌else◌}
use Rattle.std.specs.List.{AllZip}
use Rattle.std.specs.FinMap as names
use Rattle.std.proofs.Math.Path.{fun_ext}
use Rattle.rs_catalog.specs.Definitions.{state_from}
use Rattle.rs_catalog.specs.Referents.{referents_on}
use Rattle.rs_catalog_pages.specs.Items.{CatalogueItems, TableItem}
use Rattle.rs_file.specs.Contents.{Contents, SameContents, SameTable, TableContents}
use Rattle.rs_disk.specs.declared.disk.Disk as disk
use Rattle.rs_file.proofs.One.{one_thing}
use Rattle.rs_answers.specs.Versions.{SeenVersion}
use Rattle.rs_catalog.specs.Definitions.{no_definitions, no_places}
use Rattle.rs_cursor.specs.Held.{cursors_by, lines_left}
use Rattle.rs_engine.specs.Kept.{EngineState, IsMachine, seen_at, with_cursors}
use Rattle.rs_facts.specs.Runs.{Stretch}
use Rattle.rs_facts.specs.Spans.{places_of}
use Rattle.rs_file_meaning.specs.Seen.{born_by, events_with, spans_seen}
use Rattle.rs_file_meaning.specs.States.{routes_named, tables_named}
use Rattle.rs_machine.specs.Served.{Machine}
use Rattle.rs_machine.specs.State.{State, no_cursors}
use Rattle.rs_pager.specs.Maps.{committed}
use Rattle.rs_store_source.specs.Kept.{StoreState}
use Rattle.rs_store_source.specs.Shown.{ends_with, table_there}
use Rattle.rs_versioned.specs.Events.{Event, spans_at}
use Rattle.rs_versioned.specs.Referents.{referents_at}

-- the state of what a store has in memory, where its tables have these spans
abbrev pub state_of_store : {D : Type 0} → StoreState D → (ℕ → ℕ → List Stretch) → State
state_of_store store spans = state_from store.catalog (λ (route : ℕ). referents_on store.referents route) spans (record { changes = store.file.accepted; cursors = no_cursors })

machine_by : State → ℕ → ℕ → Machine
machine_by state failures full_refusals = record { state = state; failures = failures; full_refusals = full_refusals }

-- contents that are the same have the same spans
events_alike : (items : List TableItem) (one other : List TableContents) → AllZip SameTable one other → (number : ℕ) → events_with items one number ≡ events_with items other number
events_alike [] one other same number = refl
events_alike (item ∷ items) [] [] same number = refl
events_alike (item ∷ items) [] (o ∷ os) same number = absurd same
events_alike (item ∷ items) (o ∷ os) [] same number = absurd same
events_alike (item ∷ items) (o ∷ os) (p ∷ ps) same number = λ i. if item.number == number then same.0.events i else events_alike items os ps same.1 number i

spans_alike : (one other : Contents) → SameContents one other → (version : ℕ) → spans_seen one version ≡ spans_seen other version
spans_alike one other same version =
    ap (λ (events : ℕ → List Event). λ (table route : ℕ). spans_at version route (events table))
    (fun_ext (λ number. ap (λ (d : CatalogueItems). events_with d.tables one.tables number) same.definitions
    ∙ events_alike other.definitions.tables one.tables other.tables same.tables number))

-- so each version sees the same of them
seen_alike : (one other : Contents) → SameContents one other → seen_at one ≡ seen_at other
seen_alike one other same = fun_ext (λ version. λ i. record {
  routes = routes_named (born_by version (same.definitions i).routes);
  referents = λ route. names.from_entries (referents_at version route (same.referents i));
  snapshot = record {
    rows = λ table route. if table_there (record no_definitions { tables = tables_named (same.definitions i).tables }) table then places_of (spans_alike one other same version i table.number route) else no_places;
    ends = ends_with (names.entries (routes_named (born_by version (same.definitions i).routes)));
  };
})

module _ {D : Type 0} (d : disk.Ghosts D) where
  -- The engine is this machine and no other: the state of its file is that of what is in memory, and of the spans that its pages hold.
  pub record IsOneMachine (engine : EngineState D) (machine : Machine) : Type 0 where
    pub is : IsMachine d engine machine
    pub seen : is.state ≡ state_of_store engine.store (spans_seen is.stands.contents engine.store.file.accepted)

  -- ---- why there is no other

  one_state : (engine : EngineState D) (machine other : Machine) → IsOneMachine engine machine → IsOneMachine engine other → machine.state ≡ other.state
  one_state engine machine other one two =
      let here = one.is.stands in
      let there = two.is.stands in
      let same = one_thing (committed d engine.store.pager) here.contents there.contents here.keeps.holds there.keeps.holds in
      let states : one.is.state ≡ two.is.state = one.seen
      ∙ ap (λ (spans : ℕ → ℕ → List Stretch). state_of_store engine.store spans) (spans_alike here.contents there.contents same engine.store.file.accepted) ∙ sym two.seen in
      one.is.is
      ∙ ap (λ (versions : ℕ → SeenVersion). with_cursors (cursors_by (lines_left versions) engine.cursors.held) one.is.state) (seen_alike here.contents there.contents same)
      ∙ ap (with_cursors (cursors_by (lines_left (seen_at there.contents)) engine.cursors.held)) states ∙ sym two.is.is

  pub one_machine : (engine : EngineState D) (machine other : Machine) → IsOneMachine engine machine → IsOneMachine engine other → machine ≡ other
  unfolding machine_by
  one_machine engine machine other one two =
      ap (λ (state : State). machine_by state machine.failures machine.full_refusals) (one_state engine machine other one two)
      ∙ ap (λ (failures : ℕ). machine_by other.state failures machine.full_refusals) (one.is.failures ∙ sym two.is.failures)
      ∙ ap (λ (full_refusals : ℕ). machine_by other.state other.failures full_refusals) (one.is.full_refusals ∙ sym two.is.full_refusals)
