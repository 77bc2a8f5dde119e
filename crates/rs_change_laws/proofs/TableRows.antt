-- One table has other rows on a route: what the state is then, and that all else stays.
use Rattle.std.proofs.Common.{◌≡◌, ◌≤◌, ◌<◌, ◌+◌, ◌∙◌, inl, inr, ℕ, Some, List, [], ◌∷◌, ◌++◌, length, sym, ap, subst, arith}
use Rattle.std.proofs.Math.Path.{fun_ext}
use Rattle.std.specs.Prelude.{Bool, Option, slice_get}
use Rattle.std.specs.FinMap as names
use Rattle.std.specs.List.{AllByRecursion}
use Rattle.std.specs.List.Sorted.{IsPermutation}
use Rattle.std.proofs.lemmas.Bool.{cases_eq}
use Rattle.std.proofs.lemmas.List.Sorted.{IsPermutation-sym}
use Rattle.rs_catalog.specs.Definitions as catalog
use Rattle.rs_catalog.specs.Definitions.{AreDefinitions, Definitions, Numbered, Rest, state_from}
use Rattle.rs_catalog.specs.Events.{behind}
use Rattle.rs_catalog.specs.Referents.{HeldReferents, referents_on}
use Rattle.rs_catalog_laws.specs.Rest.{ChangesRows, one_more}
use Rattle.rs_catalog_meaning.specs.Meaning.{AreMeant, ends_of}
use Rattle.rs_catalog_meaning.specs.Stating.{kind_of}
use Rattle.rs_catalog_pages.specs.Items.{CatalogueItems, RouteItem, TableItem}
use Rattle.rs_cell_versions.specs.declared.cell.TheConstants.{LIVING}
use Rattle.rs_file_parts.specs.Contents.{AreGivenOnce, Contents, HoldsAll, TableContents, table_numbers}
use Rattle.rs_table_changes.specs.Changes.{ChangesRoute, Inserts, Removes}
use Rattle.rs_table_changes.specs.Turns.{EventsTurn}
use Rattle.rs_spans.specs.Removal.{goes_by}
use Rattle.rs_table_changes.proofs.Turning.{none_turned}
use Rattle.rs_facts.specs.Fact.{Name, Names, Places}
use Rattle.rs_facts.specs.Insert.{missing, new_facts, with_row}
use Rattle.rs_facts.specs.Query.{RouteEnds, Table}
use Rattle.rs_facts.specs.Remove.{going, removed_facts, without_rows}
use Rattle.rs_facts.specs.Runs.{Stretch}
use Rattle.rs_facts.specs.Spans.{places_of}
use Rattle.rs_facts.specs.declared.condition.Condition.{Condition}
use Rattle.rs_facts.proofs.SpanLaws.{places_of-permutation}
use Rattle.rs_file_meaning.specs.Changed.{HasTableBetween, HaveOwnNumbers, with_table}
use Rattle.rs_file_meaning.specs.Live.{KeepsEvents, KeepsLive, KeepsRecords}
use Rattle.rs_file_meaning.specs.Meant.{IsMeant, IsTableMeant}
use Rattle.rs_file_meaning.specs.Seen.{born_by, events_of, referents_seen, routes_at, spans_seen}
use Rattle.rs_file_meaning.specs.States.{AreDefinitionsAt, named_route, named_table, routes_named}
use Rattle.rs_machine.specs.State.{State, no_cursors}
use Rattle.rs_machine.specs.Step as machine
use Rattle.rs_machine.specs.Step.{with_facts_along, without_facts}
use Rattle.rs_pages.specs.PageMap.{PageMap}
use Rattle.rs_spans.specs.Within.{AllLieWithin}
use Rattle.rs_change_laws.specs.Changing.{GivesState, HasTurned, next_of}
use Rattle.rs_change_laws.specs.Standing.{AreInMemory}
use Rattle.rs_file_meaning.proofs.Named.{HasItem, item_of}
use Rattle.rs_file_meaning.proofs.Picked.{born_all, same_numbered}
use Rattle.rs_change_laws.proofs.Turned.{same_turned}
use Rattle.rs_change_laws.proofs.OnRoutes.{LiesOn, StandsAt, among, bound_is, by_route, each_moved, of_routes, on_route, stands_at, within_ends}
use Rattle.rs_value.specs.declared.column.Kind.{Kind}
use Rattle.rs_value.specs.Row.{Row}
use Rattle.rs_versioned.specs.Events.{Event, facts_at, spans_at}
use Rattle.rs_versioned.specs.Meant.{AreEventsMeant}
use Rattle.rs_versioned.specs.Runs.{AreRunsAt, AreRunsFrom}
use Rattle.rs_versioned.proofs.SameRuns.{runs_shuffled}

-- what is said of one table among those of contents, of live versions, and of the next one
pub record AreSaid : Type 0 where
  pub fewer : (oldest from : ℕ) (contents : Contents) → oldest ≤ from → IsMeant oldest contents → IsMeant from contents
  pub table : (oldest version : ℕ) (contents : Contents) (item : TableItem) (before : List TableContents) (table : TableContents) (after : List TableContents)
      → HasTableBetween contents item before table after → IsMeant oldest contents → oldest ≤ version → version ≤ contents.directory.accepted → IsTableMeant contents.definitions.routes version item table
  pub runs : (oldest : ℕ) (contents : Contents) (item : TableItem) (before : List TableContents) (table : TableContents) (after : List TableContents)
      → HasTableBetween contents item before table after → IsMeant oldest contents → AreRunsFrom (kind_of item.kind) oldest contents.directory.accepted table.events
  pub meant : (oldest : ℕ) (contents : Contents) (item : TableItem) (before : List TableContents) (table now : TableContents) (after : List TableContents)
      → HasTableBetween contents item before table after → IsMeant oldest contents
      → ((version : ℕ) → oldest ≤ version → version ≤ contents.directory.accepted → IsTableMeant contents.definitions.routes version item now)
      → IsMeant oldest (with_table contents before now after)
  pub was : (contents : Contents) (item : TableItem) (before : List TableContents) (table : TableContents) (after : List TableContents)
      → HasTableBetween contents item before table after → HaveOwnNumbers contents.definitions.tables → events_of contents item.number ≡ table.events
  pub is : (contents : Contents) (item : TableItem) (before : List TableContents) (table : TableContents) (after : List TableContents)
      → HasTableBetween contents item before table after → (now : TableContents) → HaveOwnNumbers contents.definitions.tables → events_of (with_table contents before now after) item.number ≡ now.events
  pub others : (contents : Contents) (item : TableItem) (before : List TableContents) (table : TableContents) (after : List TableContents)
      → HasTableBetween contents item before table after → (now : TableContents) (number : ℕ) → (number ≡ item.number → ⊥)
      → events_of (with_table contents before now after) number ≡ events_of contents number
  pub live_fewer : (oldest from : ℕ) (old now : Contents) → oldest ≤ from → KeepsLive oldest old now → KeepsLive from old now
  pub live_records : (oldest : ℕ) (old now : Contents) → KeepsRecords oldest old now → KeepsLive oldest old now
  pub live_table : (oldest : ℕ) (contents : Contents) (item : TableItem) (before : List TableContents) (table now : TableContents) (after : List TableContents)
      → HasTableBetween contents item before table after → KeepsEvents oldest contents.directory.accepted table.events now.events
      → KeepsRecords oldest contents (with_table contents before now after)
  pub next_spans : (pages : PageMap) (contents : Contents) (version : ℕ) → HoldsAll pages contents → contents.directory.accepted ≤ version → version < LIVING → (table route : ℕ)
      → spans_seen contents version table route ≡ spans_seen contents contents.directory.accepted table route
  pub next_referents : (pages : PageMap) (contents : Contents) (version : ℕ) → HoldsAll pages contents → contents.directory.accepted ≤ version → version < LIVING → (route : ℕ)
      → referents_seen contents version route ≡ referents_seen contents contents.directory.accepted route
  pub next_meant : (pages : PageMap) (contents : Contents) (oldest version : ℕ) → HoldsAll pages contents → IsMeant oldest contents → oldest ≤ contents.directory.accepted
      → contents.directory.accepted ≤ version → version < LIVING → IsMeant oldest (record contents { directory = record contents.directory { accepted = version } })
  pub definitions : (version : ℕ) (catalogue : CatalogueItems) (definitions : Definitions) → AreMeant catalogue → AreGivenOnce catalogue
      → AllByRecursion (λ (route : RouteItem). route.born ≤ version) catalogue.routes → AreDefinitionsAt version catalogue definitions → AreDefinitions definitions

-- what is said of a row that is put into a table's rows, and of rows that are taken from them
abbrev pub HasRowMore : Type 0
HasRowMore = (definitions : Definitions) (name route : Name) (table : catalog.TableItem) (on : catalog.RouteItem) (referents : ℕ → Names ℕ) (spans after : ℕ → ℕ → List Stretch) (rest : Rest)
    (lo hi : ℕ) (row : Row) (there : Table) → AreDefinitions definitions → names.get definitions.tables name ≡ Some table → names.get definitions.routes route ≡ Some on
    → names.get (state_from definitions referents spans rest).tables name ≡ Some there → ChangesRows table.number on.number spans after
    → places_of (after table.number on.number) ≡ with_row lo hi row (places_of (spans table.number on.number))
    → (state_from definitions referents after (one_more rest) ≡ machine.with_table (state_from definitions referents spans rest) name (with_facts_along there route lo hi row))
    × (new_facts there.facts route lo hi row ≡ missing lo hi row (places_of (spans table.number on.number)))

abbrev pub HasRowsLess : Type 0
HasRowsLess = (definitions : Definitions) (name route : Name) (table : catalog.TableItem) (on : catalog.RouteItem) (referents : ℕ → Names ℕ) (spans after : ℕ → ℕ → List Stretch) (rest : Rest)
    (lo hi : ℕ) (goes : Row → Bool) (there : Table) → AreDefinitions definitions → names.get definitions.tables name ≡ Some table → names.get definitions.routes route ≡ Some on
    → names.get (state_from definitions referents spans rest).tables name ≡ Some there → ChangesRows table.number on.number spans after
    → places_of (after table.number on.number) ≡ without_rows lo hi goes (places_of (spans table.number on.number))
    → (state_from definitions referents after (one_more rest) ≡ machine.with_table (state_from definitions referents spans rest) name (without_facts there route lo hi goes))
    × (removed_facts there.facts route lo hi goes ≡ going lo hi goes (places_of (spans table.number on.number)))

born_later : (from : ℕ) (routes : List RouteItem) → AllByRecursion (λ (route : RouteItem). route.born ≤ from) routes → AllByRecursion (λ (route : RouteItem). route.born ≤ from + 1) routes
born_later from [] all = tt
born_later from (r ∷ routes) all = (omega (arith, all.0), born_later from routes all.1)

-- the events of a table are others on one route
pub record ChangesOn (kind : Kind) (accepted route : ℕ) (ends : RouteEnds) (old now : List Event) : Type 0 where
  pub changes : ChangesRoute kind accepted (accepted + 1) route old now
  pub runs : AreRunsAt kind accepted route old → AreRunsAt kind (accepted + 1) route now
  pub within : AllLieWithin ends.start (behind kind ends) (spans_at accepted route old) → AllLieWithin ends.start (behind kind ends) (spans_at (accepted + 1) route now)

module _ (said : AreSaid) (pages : PageMap) (contents : Contents) (holds : HoldsAll pages contents) (from : ℕ) (meant : IsMeant from contents) (live : from ≤ contents.directory.accepted)
    (below : contents.directory.accepted + 1 < LIVING) (definitions : Definitions) (held : Numbered HeldReferents) (memory : AreInMemory definitions held contents)
    (name route : Name) (table : catalog.TableItem) (on : catalog.RouteItem) (place : ℕ)
    (table_there : names.get definitions.tables name ≡ Some table) (route_there : names.get definitions.routes route ≡ Some on)
    (placed : slice_get (table_numbers contents.definitions) place ≡ Some table.number) where
  abbrev accepted : ℕ
  accepted = contents.directory.accepted

  abbrev next : ℕ
  next = accepted + 1

  abbrev items : List TableItem
  items = contents.definitions.tables

  abbrev routes : List RouteItem
  routes = contents.definitions.routes

  own : HaveOwnNumbers items
  own = holds.said.numbered.given.tables_once

  -- ---- the definitions that are named

  born_now : born_by accepted routes ≡ routes
  born_now = born_all accepted routes holds.routes

  born_next : born_by next routes ≡ routes
  born_next = born_all next routes (born_later accepted routes holds.routes)

  pub at : StandsAt (λ (item : TableItem). item.number) items place table.number
  at = stands_at (λ (item : TableItem). item.number) items place table.number placed

  table_named : HasItem (λ (item : TableItem). item.name) (λ item. (named_table item).1) items name table
  table_named = item_of (λ (item : TableItem). item.name) (λ item. (named_table item).1) items name table meant.definitions.tables.in_order
      (sym (ap (λ (tables : Names catalog.TableItem). names.get tables name) memory.catalog.tables) ∙ table_there)

  item_is : table_named.item ≡ at.item
  item_is = same_numbered (λ (item : TableItem). item.number) items table_named.item at.item table_named.there (among items at.first at.item at.last at.are)
      (ap (λ (t : catalog.TableItem). t.number) table_named.is ∙ sym at.numbered) (own table_named.item.number)

  kind_is : kind_of at.item.kind ≡ table.kind
  kind_is = ap (λ (item : TableItem). kind_of item.kind) (sym item_is) ∙ ap (λ (t : catalog.TableItem). t.kind) table_named.is

  route_named : HasItem (λ (item : RouteItem). item.name) (λ item. (named_route item).1) routes route on
  route_named = item_of (λ (item : RouteItem). item.name) (λ item. (named_route item).1) routes route on meant.definitions.routes.in_order
      (sym (ap (λ (items : Names catalog.RouteItem). names.get items route) (memory.catalog.routes ∙ ap routes_named born_now)) ∙ route_there)

  number_is : route_named.item.number ≡ on.number
  number_is = ap (λ (r : catalog.RouteItem). r.number) route_named.is

  ends_are : ends_of route_named.item ≡ on.ends
  ends_are = ap (λ (r : catalog.RouteItem). r.ends) route_named.is

  -- spans lie on the route where they lie within its ends
  abbrev Within : List Stretch → Type 0
  Within spans = AllLieWithin on.ends.start (behind table.kind on.ends) spans

  abbrev LieOnIt : ℕ → List Stretch → Type 0
  LieOnIt version spans = AllByRecursion (LiesOn (routes_at version routes) table.kind on.number) spans

  lie_within : (version : ℕ) → born_by version routes ≡ routes → (spans : List Stretch) → LieOnIt version spans → Within spans
  lie_within version born spans lie =
      subst (λ (ends : RouteEnds). AllLieWithin ends.start (behind table.kind ends) spans) ends_are
      (subst (λ (n : ℕ). AllLieWithin route_named.item.start n spans) (sym (bound_is table.kind route_named.item))
      (within_ends table.kind version routes meant.definitions.routes.numbers_once born route_named.item route_named.there spans
      (subst (λ (n : ℕ). AllByRecursion (LiesOn (routes_at version routes) table.kind n) spans) (sym number_is) lie)))

  lie_on : (version : ℕ) → born_by version routes ≡ routes → (spans : List Stretch) → Within spans → LieOnIt version spans
  lie_on version born spans within =
      subst (λ (n : ℕ). AllByRecursion (LiesOn (routes_at version routes) table.kind n) spans) number_is
      (on_route table.kind version routes meant.definitions.routes.numbers_once born route_named.item route_named.there spans
      (subst (λ (n : ℕ). AllLieWithin route_named.item.start n spans) (bound_is table.kind route_named.item)
      (subst (λ (ends : RouteEnds). AllLieWithin ends.start (behind table.kind ends) spans) (sym ends_are) within)))

  -- ---- the table that changes

  module _ (before after : List TableContents) (old now : TableContents) (long : length before ≡ place) (were : contents.tables ≡ before ++ old ∷ after)
      (changes : ChangesOn table.kind accepted on.number on.ends old.events now.events) where
    abbrev changed : Contents
    changed = with_table contents before now after

    between : HasTableBetween contents at.item before old after
    between = record { first = at.first; last = at.last; items = at.are; long = at.long ∙ sym long; tables = were }

    between_next : HasTableBetween (next_of contents) at.item before old after
    between_next = record { first = at.first; last = at.last; items = at.are; long = at.long ∙ sym long; tables = were }

    pub runs_before : AreRunsFrom table.kind from accepted old.events
    runs_before = subst (λ (kind : Kind). AreRunsFrom kind from accepted old.events) kind_is (said.runs from contents at.item before old after between meant)

    pub runs_present : (number : ℕ) → AreRunsAt table.kind accepted number old.events
    runs_present number = runs_before.each accepted number live (omega arith)

    live_is : (oldest : ℕ) → from ≤ oldest → KeepsLive oldest contents changed
    live_is oldest upto = said.live_fewer from oldest contents changed upto
        (said.live_records from contents changed (said.live_table from contents at.item before old now after between (changes.changes.live from live runs_before)))

    -- ---- the next version is meant

    meant_next : IsMeant next (next_of contents)
    meant_next = said.fewer from next (next_of contents) (omega (arith, live)) (said.next_meant pages contents from next holds meant live (omega arith) below)

    table_next : AreEventsMeant (routes_at next routes) table.kind next old.events
    table_next = subst (λ (kind : Kind). AreEventsMeant (routes_at next routes) kind next old.events) kind_is
        (said.table next next (next_of contents) at.item before old after between_next meant_next (omega arith) (omega arith))

    events_were : events_of contents at.item.number ≡ old.events
    events_were = said.was contents at.item before old after between own

    spans_same : (number : ℕ) → spans_at next number old.events ≡ spans_at accepted number old.events
    spans_same number =
        ap (spans_at next number) (sym events_were)
        ∙ said.next_spans pages contents next holds (omega arith) below at.item.number number
        ∙ ap (spans_at accepted number) events_were

    lie_before : (number : ℕ) → AllByRecursion (LiesOn (routes_at next routes) table.kind number) (spans_at accepted number old.events)
    lie_before number = subst (AllByRecursion (LiesOn (routes_at next routes) table.kind number)) (spans_same number) (by_route (routes_at next routes) table.kind next old.events table_next.lie number)

    moved : (number : ℕ) → (number ≡ on.number → ⊥) → IsPermutation (spans_at accepted number old.events) (spans_at next number now.events)
    moved number apart = IsPermutation-sym (spans_at next number now.events) (spans_at accepted number old.events) (changes.changes.elsewhere number apart)

    runs_now : (number : ℕ) → AreRunsAt table.kind next number now.events
    runs_now number = elim (cases_eq number on.number) [
      | inl same ↦ subst (λ (n : ℕ). AreRunsAt table.kind next n now.events) (sym same) (changes.runs (runs_present on.number))
      | inr apart ↦ runs_shuffled table.kind (spans_at accepted number old.events) (spans_at next number now.events) (moved number apart) (runs_present number)
    ]

    lie_now : (number : ℕ) → AllByRecursion (LiesOn (routes_at next routes) table.kind number) (spans_at next number now.events)
    lie_now number = elim (cases_eq number on.number) [
      | inl same ↦ subst (λ (n : ℕ). AllByRecursion (LiesOn (routes_at next routes) table.kind n) (spans_at next n now.events)) (sym same)
          (lie_on next born_next (spans_at next on.number now.events) (changes.within (lie_within next born_next (spans_at accepted on.number old.events) (lie_before on.number))))
      | inr apart ↦ each_moved (LiesOn (routes_at next routes) table.kind number) (spans_at accepted number old.events) (spans_at next number now.events) (moved number apart) (lie_before number)
    ]

    table_now : IsTableMeant routes next at.item now
    table_now = subst (λ (kind : Kind). AreEventsMeant (routes_at next routes) kind next now.events) (sym kind_is)
        (record { runs = runs_now; lie = of_routes (routes_at next routes) table.kind next now.events lie_now })

    meant_is : IsMeant next (next_of changed)
    meant_is = said.meant next (next_of contents) at.item before old now after between_next meant_next (λ version low high.
        let same : next ≡ version = omega (arith, low, high) in subst (λ (v : ℕ). IsTableMeant routes v at.item now) same table_now)

    -- ---- what is in memory, and the state

    memory_is : AreInMemory definitions held (next_of changed)
    memory_is = record {
      catalog = record {
        routes = memory.catalog.routes ∙ ap routes_named (born_now ∙ sym born_next);
        tables = memory.catalog.tables;
        indexes = memory.catalog.indexes;
        views = memory.catalog.views;
        alignments = memory.catalog.alignments;
      };
      referents = λ number. memory.referents number ∙ sym (said.next_referents pages contents next holds (omega arith) below number);
    }

    pub are_definitions : AreDefinitions definitions
    are_definitions = said.definitions accepted contents.definitions definitions meant.definitions holds.said.numbered.given holds.routes memory.catalog

    pub were_events : events_of contents table.number ≡ old.events
    were_events = subst (λ (n : ℕ). events_of contents n ≡ old.events) at.numbered events_were

    pub are_events : events_of changed table.number ≡ now.events
    are_events = subst (λ (n : ℕ). events_of changed n ≡ now.events) at.numbered (said.is contents at.item before old after between now own)

    pub rows_change : ChangesRows table.number on.number (spans_seen contents accepted) (spans_seen (next_of changed) next)
    rows_change = record {
      others = λ other apart along. ap places_of
          (ap (spans_at next along) (said.others contents at.item before old after between now other (λ same. apart (same ∙ at.numbered)))
          ∙ said.next_spans pages contents next holds (omega arith) below other along);
      elsewhere = λ along apart.
          ap (λ (events : List Event). places_of (spans_at next along events)) are_events
          ∙ places_of-permutation (spans_at next along now.events) (spans_at accepted along old.events) (changes.changes.elsewhere along apart)
          ∙ ap (λ (events : List Event). places_of (spans_at accepted along events)) (sym were_events);
    }

    abbrev pub rest_of : ℕ → Rest
    rest_of version = record { changes = version; cursors = no_cursors }

    -- the events of the table have turned, and nothing else has
    turned_is : HasTurned next contents changed
    turned_is = record {
      tables = λ item there. inl there;
      events = λ item there. elim (cases_eq item.number at.item.number) [
        | inl same ↦ subst (λ (n : ℕ). EventsTurn next (events_of contents n) (events_of changed n)) (sym same)
            (subst (λ (events : List Event). EventsTurn next events (events_of changed at.item.number)) (sym events_were)
            (subst (λ (events : List Event). EventsTurn next old.events events) (sym (said.is contents at.item before old after between now own)) changes.changes.turns))
        | inr apart ↦ same_turned next item.number contents changed (said.others contents at.item before old after between now item.number apart)
      ];
      referents = none_turned next contents.referents.referents;
    }

    pub gives : (oldest : ℕ) → from ≤ oldest → (state : State) → state ≡ state_from definitions (λ (number : ℕ). referents_on held number) (spans_seen (next_of changed) next) (rest_of next)
        → GivesState oldest contents changed definitions held state
    gives oldest upto state is = record {
      turned = turned_is;
      live = live_is oldest upto;
      meant = meant_is;
      memory = memory_is;
      is = record {
        definitions = definitions;
        are = memory_is.catalog;
        is = is ∙ ap (λ (referents : ℕ → Names ℕ). state_from definitions referents (spans_seen (next_of changed) next) (rest_of next)) (fun_ext memory_is.referents);
      };
    }

    -- the rows of the table on the route, by its number
    rows_become : (change : Places → Places) → facts_at next on.number now.events ≡ change (facts_at accepted on.number old.events)
        → places_of (spans_seen (next_of changed) next table.number on.number) ≡ change (places_of (spans_seen contents accepted table.number on.number))
    rows_become change become =
        ap (λ (events : List Event). facts_at next on.number events) are_events
        ∙ become
        ∙ ap (λ (events : List Event). change (facts_at accepted on.number events)) (sym were_events)

    rows_were : (count : ℕ) (count_of : Places → ℕ) → count ≡ count_of (facts_at accepted on.number old.events) → count ≡ count_of (places_of (spans_seen contents accepted table.number on.number))
    rows_were count count_of is = is ∙ ap (λ (events : List Event). count_of (facts_at accepted on.number events)) (sym were_events)

    module _ (oldest : ℕ) (upto : from ≤ oldest) (state : State)
        (is_state : state ≡ state_from definitions (λ (number : ℕ). referents_on held number) (spans_seen contents accepted) (rest_of accepted))
        (there : Table) (there_is : names.get state.tables name ≡ Some there) where
      abbrev state_before : State
      state_before = state_from definitions (λ (number : ℕ). referents_on held number) (spans_seen contents accepted) (rest_of accepted)

      abbrev state_after : State
      state_after = state_from definitions (λ (number : ℕ). referents_on held number) (spans_seen (next_of changed) next) (rest_of next)

      still_there : names.get state_before.tables name ≡ Some there
      still_there = subst (λ (s : State). names.get s.tables name ≡ Some there) is_state there_is

      gives_table : (has : Table) → state_after ≡ machine.with_table state_before name has → GivesState oldest contents changed definitions held (machine.with_table state name has)
      gives_table has is = gives oldest upto (machine.with_table state name has) (ap (λ (s : State). machine.with_table s name has) is_state ∙ sym is)

      pub row_put : HasRowMore → (span : Stretch) (count : ℕ) → Inserts table.kind accepted next on.number span count old.events now.events
          → GivesState oldest contents changed definitions held (machine.with_table state name (with_facts_along there route span.lo span.hi span.row))
          × (count ≡ new_facts there.facts route span.lo span.hi span.row)
      row_put has span count inserts =
          let law = has definitions name route table on (λ (number : ℕ). referents_on held number) (spans_seen contents accepted) (spans_seen (next_of changed) next) (rest_of accepted)
          span.lo span.hi span.row there are_definitions table_there route_there still_there rows_change
          (rows_become (with_row span.lo span.hi span.row) (inserts.facts (runs_present on.number))) in (
            gives_table (with_facts_along there route span.lo span.hi span.row) law.0,
            rows_were count (missing span.lo span.hi span.row) (inserts.counted (runs_present on.number)) ∙ sym law.1,
          )

      pub rows_taken : HasRowsLess → (lo hi : ℕ) (goes : Option Condition) (count : ℕ) → Removes accepted next on.number lo hi goes count old.events now.events
          → GivesState oldest contents changed definitions held (machine.with_table state name (without_facts there route lo hi (goes_by goes)))
          × (count ≡ removed_facts there.facts route lo hi (goes_by goes))
      rows_taken has lo hi goes count removes =
          let law = has definitions name route table on (λ (number : ℕ). referents_on held number) (spans_seen contents accepted) (spans_seen (next_of changed) next) (rest_of accepted)
          lo hi (goes_by goes) there are_definitions table_there route_there still_there rows_change
          (rows_become (without_rows lo hi (goes_by goes)) (removes.facts table.kind (runs_present on.number))) in (
            gives_table (without_facts there route lo hi (goes_by goes)) law.0,
            rows_were count (going lo hi (goes_by goes)) (removes.counted table.kind (runs_present on.number)) ∙ sym law.1,
          )
