-- The next version begins as the present one.
use Rattle.std.proofs.Common.{◌≡◌, ◌<◌, ◌≤◌, ◌&&◌, ◌==◌, ℕ, Bool, true, false, cond, List, [], ◌∷◌, map, filter, refl, sym, ap, ◌∙◌, arith}
use Rattle.std.specs.Prelude.{if◌then◌else◌}
use Rattle.std.proofs.Math.Path.{fun_ext}
use Rattle.std.specs.FinMap as names
use Rattle.std.specs.List.{AllByRecursion}
use Rattle.rs_catalog.specs.Definitions as catalog
use Rattle.rs_catalog.specs.Definitions.{state_from, table_from}
use Rattle.rs_catalog.specs.Names.{map_values}
use Rattle.rs_catalog_pages.specs.Items.{RouteItem, TableItem}
use Rattle.rs_versioned.specs.TheConstants.{LIVING}
use Rattle.rs_facts.specs.Fact.{Names}
use Rattle.rs_facts.specs.Query.{World}
use Rattle.rs_facts.specs.Runs.{Stretch}
use Rattle.rs_file.specs.Contents.{Contents, HoldsAll, LiesTable, TableContents}
use Rattle.rs_machine.specs.State.{State, no_cursors}
use Rattle.rs_pages.specs.PageMap.{PageMap}
use Rattle.rs_versioned.specs.Events.{spans_at}
use Rattle.rs_versioned.specs.Records.{is_seen}
use Rattle.rs_versioned.specs.Referents.{ReferentRecord, is_referent_of, kept_referents}
use Rattle.rs_versioned.proofs.KeptReferents.{referents_are_kept}
use Rattle.rs_versioned.proofs.Present.{held_level}
use Rattle.rs_versioned.proofs.RunsByVersion.{spans_level}
use Rattle.rs_file_meaning.specs.Seen.{born_by, events_with, referents_seen, spans_seen}
use Rattle.rs_file_meaning.specs.States.{IsState, IsStateAt, routes_named, tables_named, world_at}
use Rattle.rs_file_meaning.proofs.Picked.{born_all}

pub filter_alike : {X : Type 0} (one other : X → Bool) (xs : List X) → AllByRecursion (λ x. one x ≡ other x) xs → filter one xs ≡ filter other xs
filter_alike one other [] all = refl
filter_alike one other (x ∷ xs) all =
    ap (λ b. cond b (x ∷ filter one xs) (filter one xs)) all.0 ∙ ap (λ l. cond (other x) (x ∷ l) l) (filter_alike one other xs all.1)

pub on_alike : (from to route : ℕ) (referents : List ReferentRecord) → AllByRecursion (λ one. is_seen kept_referents to one ≡ is_seen kept_referents from one) referents
    → AllByRecursion (λ one. is_referent_of to route one ≡ is_referent_of from route one) referents
on_alike from to route [] all = tt
on_alike from to route (r ∷ referents) all = (ap (λ b. r.route == route && b) all.0, on_alike from to route referents all.1)

pub born_later : (from to : ℕ) → from ≤ to → (routes : List RouteItem) → AllByRecursion (λ (route : RouteItem). route.born ≤ from) routes → AllByRecursion (λ (route : RouteItem). route.born ≤ to) routes
born_later from to later [] all = tt
born_later from to later (r ∷ routes) all = (omega (arith, all.0, later), born_later from to later routes all.1)

module _ (pages : PageMap) (contents : Contents) (version : ℕ) (holds : HoldsAll pages contents) (later : contents.directory.accepted ≤ version) (below : version < LIVING) where
  abbrev accepted : ℕ
  accepted = contents.directory.accepted

  spans_with : (route number : ℕ) (items : List TableItem) (tables : List TableContents) → AllByRecursion (LiesTable pages accepted) tables
      → spans_at version route (events_with items tables number) ≡ spans_at accepted route (events_with items tables number)
  spans_with route number [] tables all = refl
  spans_with route number (item ∷ items) [] all = refl
  spans_with route number (item ∷ items) (t ∷ tables) all =
      elim (item.number == number) as (λ b. spans_at version route (if b then t.events else events_with items tables number) ≡ spans_at accepted route (if b then t.events else events_with items tables number)) [
        | true ↦ spans_level t.types pages t.standing accepted t.events t.used all.0.records version route later below
        | false ↦ spans_with route number items tables all.1
      ]

  pub spans_next : (table route : ℕ) → spans_seen contents version table route ≡ spans_seen contents accepted table route
  spans_next table route = spans_with route table contents.definitions.tables contents.tables holds.parts.tables

  pub referents_next : (route : ℕ) → referents_seen contents version route ≡ referents_seen contents accepted route
  referents_next route =
      let all = contents.referents.referents in
      let level = held_level kept_referents referents_are_kept pages contents.referents.standing accepted version all contents.referents.used holds.parts.referents later below in
      ap (λ (referents : List ReferentRecord). names.from_entries (map (λ one. (one.name, one.measure)) referents))
      (filter_alike (is_referent_of version route) (is_referent_of accepted route) all (on_alike accepted version route all level))

  routes_next : born_by accepted contents.definitions.routes ≡ born_by version contents.definitions.routes
  routes_next =
      born_all accepted contents.definitions.routes holds.routes
      ∙ sym (born_all version contents.definitions.routes (born_later accepted version later contents.definitions.routes holds.routes))

  pub state_next : (state : State) → IsState contents state → IsStateAt version contents (record state { changes = version })
  state_next state is = record {
    definitions = is.definitions;
    are = record {
      routes = is.are.routes ∙ ap routes_named routes_next;
      tables = is.are.tables;
      indexes = is.are.indexes;
      views = is.are.views;
      alignments = is.are.alignments;
    };
    is = ap (λ (s : State). record s { changes = version }) is.is
        ∙ ap (λ (referents : ℕ → Names ℕ). state_from is.definitions referents (spans_seen contents accepted) (record { changes = version; cursors = no_cursors })) (fun_ext (λ route. sym (referents_next route)))
        ∙ ap (λ (spans : ℕ → ℕ → List Stretch). state_from is.definitions (referents_seen contents version) spans (record { changes = version; cursors = no_cursors }))
        (fun_ext (λ table. fun_ext (λ route. sym (spans_next table route))));
  }

  world_by : Names catalog.RouteItem → (ℕ → ℕ → List Stretch) → World
  world_by routes spans = record {
    routes = map_values (λ (item : catalog.RouteItem). item.ends) routes;
    tables = map_values (table_from routes spans) (tables_named contents.definitions.tables);
  }

  pub world_next : world_at contents version ≡ world_at contents accepted
  unfolding world_by
  world_next =
      ap (λ (routes : List RouteItem). world_by (routes_named routes) (spans_seen contents version)) (sym routes_next)
      ∙ ap (λ (spans : ℕ → ℕ → List Stretch). world_by (routes_named (born_by accepted contents.definitions.routes)) spans) (fun_ext (λ table. fun_ext (λ route. spans_next table route)))
