-- Where a version sees the same, facts, runs, referents and its world are the same.
use Rattle.std.proofs.Common.{◌≡◌, ◌∙◌, ℕ, Some, List, map, refl, sym, ap, subst}
use Rattle.std.proofs.Math.Path.{fun_ext}
use Rattle.std.specs.FinMap as names
use Rattle.rs_catalog.specs.Definitions as catalog
use Rattle.rs_catalog.specs.Definitions.{facts_from, no_places, on_numbered, table_from, tables_from}
use Rattle.rs_catalog.specs.Names.{map_values}
use Rattle.rs_catalog_meaning.specs.Meaning.{AreInOrder, AreMeant}
use Rattle.rs_catalog_pages.specs.Items.{CatalogueItems, RouteItem, TableItem}
use Rattle.rs_facts.specs.Fact.{Facts, Name, Names, Places}
use Rattle.rs_facts.specs.Query.{Table, World}
use Rattle.rs_facts.specs.Runs.{Stretch}
use Rattle.rs_facts.specs.Spans.{places_of}
use Rattle.rs_file.specs.Contents.{Contents}
use Rattle.rs_facts.proofs.SpanLaws.{places_of-permutation}
use Rattle.rs_value.specs.declared.column.Kind.{Kind}
use Rattle.rs_versioned.specs.Events.{Event, spans_at}
use Rattle.rs_versioned.specs.Referents.{ReferentRecord, referents_at}
use Rattle.rs_versioned.specs.Meant.{AreEventsMeant, AreReferentsMeant}
use Rattle.rs_versioned.specs.declared.route_span.RouteSpan.{RouteSpan}
use Rattle.rs_file_meaning.specs.Changed.{SaysTheSame}
use Rattle.rs_file_meaning.specs.Live.{HasTheSameWorld, SeesTheSame}
use Rattle.rs_file_meaning.specs.Seen.{born_by, events_of, events_with, referents_seen, routes_at, span_of_route, spans_seen}
use Rattle.rs_file_meaning.specs.States.{IsStateAt, named_table, routes_named, tables_named, world_at}
use Rattle.rs_machine.specs.Lawful.{AreDistinct}
use Rattle.rs_machine.specs.State.{State, world_of}
use Rattle.rs_file_meaning.proofs.KeptLive.{events_beside}
use Rattle.rs_file_meaning.proofs.Named.{get_there, item_of, values_changed}
use Rattle.rs_file_meaning.proofs.SameNames.{entries_moved}
use Rattle.rs_file_meaning.proofs.SeenRecords.{events_alike, marks_alike, referents_alike, spans_alike}

-- ---- contents that say the same

same_events : (one other : Contents) → SaysTheSame one other → events_of one ≡ events_of other
same_events one other same = fun_ext (λ number.
    ap (λ (d : CatalogueItems). events_with d.tables one.tables number) same.definitions
    ∙ events_beside (λ es fs. es ≡ fs) refl other.definitions.tables one.tables other.tables same.tables number)

pub same_spans : (one other : Contents) → SaysTheSame one other → (version : ℕ) → spans_seen one version ≡ spans_seen other version
same_spans one other same version =
    ap (λ (events : ℕ → List Event). λ (table route : ℕ). spans_at version route (events table)) (same_events one other same)

pub same_referents : (one other : Contents) → SaysTheSame one other → (version : ℕ) → referents_seen one version ≡ referents_seen other version
same_referents one other same version =
    ap (λ (referents : List ReferentRecord). λ (route : ℕ). names.from_entries (referents_at version route referents)) same.referents

-- the world of these routes and tables, as the tables are seen
world_by : Names catalog.RouteItem → Names catalog.TableItem → (catalog.TableItem → Table) → World
world_by routes tables see = record { routes = map_values (λ (item : catalog.RouteItem). item.ends) routes; tables = map_values see tables }

pub same_world : (version : ℕ) (one other : Contents) → SaysTheSame one other → world_at one version ≡ world_at other version
unfolding world_by
same_world version one other same =
    ap (λ (d : CatalogueItems). let routes = routes_named (born_by version d.routes) in world_by routes (tables_named d.tables) (table_from routes (spans_seen one version))) same.definitions
    ∙ ap (λ (spans : ℕ → ℕ → List Stretch). let routes = routes_named (born_by version other.definitions.routes) in world_by routes (tables_named other.definitions.tables) (table_from routes spans))
    (same_spans one other same version)

-- the world of a state is that of its version
pub world_is : (version : ℕ) (contents : Contents) (state : State) → IsStateAt version contents state → world_of state ≡ world_at contents version
unfolding world_by tables_from
world_is version contents state is =
    let kept = routes_named (born_by version contents.definitions.routes) in
    ap world_of is.is
    ∙ ap (λ (routes : Names catalog.RouteItem). world_by routes is.definitions.tables (table_from routes (spans_seen contents version))) is.are.routes
    ∙ ap (λ (tables : Names catalog.TableItem). world_by kept tables (table_from kept (spans_seen contents version))) is.are.tables

-- ---- what a version sees

module _ (version : ℕ) (old now : Contents) (sees : SeesTheSame version old now) where
  pub facts_seen : (table route : ℕ) → places_of (spans_seen now version table route) ≡ places_of (spans_seen old version table route)
  facts_seen table route =
      places_of-permutation (spans_seen now version table route) (spans_seen old version table route)
      (spans_alike version version route (events_of old table) (events_of now table) (sees.events table))

  routes_seen : routes_at version now.definitions.routes ≡ routes_at version old.definitions.routes
  routes_seen = ap (map span_of_route) sees.routes

  pub events_meant : (kind : Kind) (table : ℕ) → AreEventsMeant (routes_at version old.definitions.routes) kind version (events_of old table)
      → AreEventsMeant (routes_at version now.definitions.routes) kind version (events_of now table)
  events_meant kind table meant =
      subst (λ (spans : List RouteSpan). AreEventsMeant spans kind version (events_of now table)) (sym routes_seen)
      (events_alike (routes_at version old.definitions.routes) kind version version (events_of old table) (events_of now table) (sees.events table) meant)

  pub referents_meant : AreReferentsMeant (routes_at version old.definitions.routes) version old.referents.referents
      → AreReferentsMeant (routes_at version now.definitions.routes) version now.referents.referents
  referents_meant meant =
      subst (λ (spans : List RouteSpan). AreReferentsMeant spans version now.referents.referents) (sym routes_seen)
      (referents_alike (routes_at version old.definitions.routes) version version old.referents.referents now.referents.referents sees.referents meant)

  pub names_seen : (route : ℕ) → AreDistinct (map (λ one. one.0) (referents_at version route old.referents.referents)) → referents_seen now version route ≡ referents_seen old version route
  names_seen route once =
      entries_moved (referents_at version route old.referents.referents) (referents_at version route now.referents.referents)
      (marks_alike version version route old.referents.referents now.referents.referents sees.referents) once

  facts_by : (routes : Names catalog.RouteItem) (one other : ℕ → List Stretch) → ((route : ℕ) → places_of (one route) ≡ places_of (other route)) → facts_from routes one ≡ facts_from routes other
  unfolding facts_from
  facts_by routes one other same = fun_ext (λ route. ap (λ (places : ℕ → Places). on_numbered no_places places (names.get routes route)) (fun_ext same))

  abbrev routes : Names catalog.RouteItem
  routes = routes_named (born_by version old.definitions.routes)

  -- a table on the routes that were there, as it is seen in these contents
  seen_in : Contents → catalog.TableItem → Table
  seen_in contents = table_from routes (spans_seen contents version)

  tables_seen : seen_in now ≡ seen_in old
  unfolding seen_in
  tables_seen = fun_ext (λ (item : catalog.TableItem). ap (λ (facts : Facts). record { kind = item.kind; columns = item.columns; facts = facts })
      (facts_by routes (spans_seen now version item.number) (spans_seen old version item.number) (facts_seen item.number)))

  -- the world now, by the routes that were there
  world_now : world_at now version ≡ world_by routes (tables_named now.definitions.tables) (seen_in old)
  unfolding world_by seen_in
  world_now =
      ap (λ (born : List RouteItem). world_by (routes_named born) (tables_named now.definitions.tables) (table_from (routes_named born) (spans_seen now version))) sees.routes
      ∙ ap (world_by routes (tables_named now.definitions.tables)) tables_seen

  pub world_seen : now.definitions.tables ≡ old.definitions.tables → world_at now version ≡ world_at old version
  unfolding world_by seen_in
  world_seen tables = world_now ∙ ap (λ (items : List TableItem). world_by routes (tables_named items) (seen_in old)) tables

  full : TableItem → Table
  full table = seen_in old (named_table table).1

  tables_full : (items : List TableItem) → AreInOrder (λ (table : TableItem). table.name) items
      → (world_by routes (tables_named items) (seen_in old)).tables ≡ names.from_sorted (map (λ (table : TableItem). (table.name, full table)) items)
  unfolding full world_by
  tables_full items order = values_changed (λ (table : TableItem). table.name) (λ table. (named_table table).1) (seen_in old) items order

  pub worlds_seen : AreMeant old.definitions → AreMeant now.definitions → HasTheSameWorld version old now
  unfolding world_by seen_in
  worlds_seen meant means = record {
    routes = ap (λ (world : World). world.routes) world_now;
    tables = λ name table there.
        let has = item_of (λ (t : TableItem). t.name) full old.definitions.tables name table meant.tables.in_order
        (subst (λ (tables : Names Table). names.get tables name ≡ Some table) (tables_full old.definitions.tables meant.tables.in_order) there) in
        let found = get_there (λ (t : TableItem). t.name) full now.definitions.tables has.item means.tables.in_order (sees.tables has.item has.there) in
        subst (λ (n : Name). names.get (world_at now version).tables n ≡ Some table) has.named
        (ap (λ (world : World). names.get world.tables has.item.name) world_now
        ∙ ap (λ (tables : Names Table). names.get tables has.item.name) (tables_full now.definitions.tables means.tables.in_order)
        ∙ found ∙ ap Some has.is);
  }
