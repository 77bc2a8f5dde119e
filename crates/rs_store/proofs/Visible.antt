-- The routes and the referents that a version sees.
use Rattle.std.proofs.Common.{◌≡◌, ◌≤◌, ◌∙◌, ℕ, Bool, true, false, cond, Result, Ok, Err, List, [], ◌∷◌, ap, filter, map, nat_le, refl, subst, sym, arith}
use Rattle.std.specs.FinMap as names
use Rattle.std.specs.FinMap.{entries-from_sorted, is_sorted}
use Rattle.std.specs.List.{AllByRecursion}
use Rattle.std.specs.Prelude.{IfOk}
use Rattle.arrayvec.specs.ArrayString.{ArrayString}
use Rattle.rs_catalog.specs.Definitions as catalog
use Rattle.rs_catalog.specs.Names.{entries_by_bytes}
use Rattle.rs_catalog.specs.Referents.{referents_on}
use Rattle.rs_catalog.specs.declared.referents.RouteReferents.{RouteReferents}
use Rattle.rs_catalog.proofs.Names.{entries-map_values}
use Rattle.rs_catalog_meaning.specs.Meaning.{AreInOrder}
use Rattle.rs_catalog_pages.specs.Items.{RouteItem}
use Rattle.rs_cell_versions.specs.Versioned.{Standing}
use Rattle.rs_disk.specs.declared.disk.Disk as disk
use Rattle.rs_facts.specs.Fact.{Name, name_cmp}
use Rattle.rs_file.proofs.Loaded.{same_map}
use Rattle.rs_file_meaning.specs.Seen.{born_by, is_born, referents_seen, routes_at, span_of_route}
use Rattle.rs_file_meaning.specs.States.{named_route, routes_named}
use Rattle.rs_machine.specs.State.{State}
use Rattle.rs_pager.specs.Maps.{committed, working}
use Rattle.rs_pages.specs.PageMap.{PageMap}
use Rattle.rs_refusal.specs.declared.refusal.Refusal.{Refusal}
use Rattle.rs_stored_catalog.specs.Referents.{IsSpan, OfThose}
use Rattle.rs_stored_catalog.specs.RouteReferents.{HasAlone}
use Rattle.rs_file_meaning.proofs.Named.{order_kept, to_T}
use Rattle.rs_file_meaning.proofs.Picked.{born_all}
use Rattle.rs_versioned.specs.Meant.{AreReferentsMeant}
use Rattle.rs_versioned.specs.Records.{HoldsRecords}
use Rattle.rs_versioned.specs.Referents.{kept_referents, referents_at}
use Rattle.rs_versioned.specs.declared.route_span.RouteSpan.{RouteSpan}
use Rattle.rs_store.specs.Kept.{StandsIn, StoreState}
use Rattle.rs_store.specs.Versions.{AreRoutesAt, routes_by}
use Rattle.rs_store.proofs.Brought.{are_spans}
use Rattle.rs_store.proofs.Listed.{seen_passing}
use Rattle.rs_store.proofs.RouteFacts.{sorted_values}

-- ---- routes that were born by a version

abbrev pub is_old : ℕ → Name × catalog.RouteItem → Bool
is_old version entry = nat_le entry.1.born version

abbrev pub left_of : ℕ → List (ArrayString × catalog.RouteItem) → List (Name × catalog.RouteItem)
left_of version rest = filter (is_old version) (entries_by_bytes (λ route. route) rest)

-- ---- the routes of a version

-- routes whose names rise are listed as they are
entries_of : (routes : List RouteItem) → AreInOrder (λ (route : RouteItem). route.name) routes → names.entries (routes_named routes) ≡ map named_route routes
entries_of routes order =
    entries-from_sorted name_cmp (map named_route routes)
    (to_T (is_sorted name_cmp (map named_route routes)) (sorted_values (λ (r : RouteItem). r.name) (λ (r : RouteItem). (named_route r).1) routes ∙ order))

module _ {D : Type 0} (d : disk.Ghosts D) (oldest : ℕ) (store : StoreState D) (state : State) (stands : StandsIn d oldest store state) (version : ℕ) where
  abbrev routes : List RouteItem
  routes = stands.contents.definitions.routes

  in_order : AreInOrder (λ (route : RouteItem). route.name) routes
  in_order = stands.meant.definitions.routes.in_order

  all_listed : names.entries store.catalog.routes ≡ map named_route routes
  all_listed =
      ap names.entries (stands.keeps.memory.catalog.routes
      ∙ ap routes_named (born_all stands.contents.directory.accepted routes stands.keeps.holds.routes))
      ∙ entries_of routes in_order

  -- those of the catalogue that were born by it are those that it sees
  pub are_at : AreRoutesAt version stands.contents (routes_by version store.catalog)
  are_at =
      let are : routes_by version store.catalog ≡ names.entries (routes_named (born_by version routes)) =
      ap (filter (is_old version)) all_listed
      ∙ sym (seen_passing named_route (is_born version) (is_old version) routes (λ route. refl))
      ∙ sym (entries_of (born_by version routes) (order_kept (λ (route : RouteItem). route.name) (is_born version) routes in_order)) in
      record {
        are = are;
        world = ap (map (λ (e : Name × catalog.RouteItem). (e.0, e.1.ends))) are
            ∙ sym (entries-map_values (λ (item : catalog.RouteItem). item.ends) (routes_named (born_by version routes)));
      }

  -- ---- the referents of a version

  spans_kept : (rs : List RouteItem) → AllByRecursion IsSpan (map span_of_route rs) → AllByRecursion IsSpan (routes_at version rs)
  spans_kept [] all = tt
  spans_kept (route ∷ rs) all =
      let rest = spans_kept rs all.1 in
      elim (is_born version route) as (λ b. AllByRecursion IsSpan (map span_of_route (cond b (route ∷ born_by version rs) (born_by version rs)))) [
        | true ↦ (all.0, rest)
        | false ↦ rest
      ]

  -- the routes of the version are such as a file may have
  pub spans_at_version : AllByRecursion IsSpan (routes_at version routes)
  spans_at_version = spans_kept routes (are_spans stands.contents.definitions stands.meant.definitions)

  -- the referents that the pages hold
  referents_lie : HoldsRecords kept_referents (working d store.pager) store.file.referents.working stands.contents.directory.accepted stands.contents.referents.referents
      stands.contents.referents.used
  referents_lie =
      let contents = stands.contents in
      subst (λ (standing : Standing). HoldsRecords kept_referents (working d store.pager) standing contents.directory.accepted contents.referents.referents contents.referents.used)
      stands.keeps.opened.referents
      (subst (λ (m : PageMap). HoldsRecords kept_referents m contents.referents.standing contents.directory.accepted contents.referents.referents contents.referents.used)
      (sym (same_map (working d store.pager) (committed d store.pager) stands.keeps.same)) stands.keeps.holds.parts.referents)

  module _ (low : oldest ≤ version) (high : version ≤ store.file.accepted) where
    abbrev meant_there : AreReferentsMeant (routes_at version routes) version stands.contents.referents.referents
    meant_there =
        let level : stands.contents.directory.accepted ≡ store.file.accepted = stands.keeps.opened.accepted in
        (stands.meant.records version low (omega (arith, high, level))).referents

    pub referents_there : (route : ℕ) (result : Result RouteReferents Refusal)
        → IfOk result (λ made. OfThose (working d store.pager) store.file.referents (λ referents. (spans : List RouteSpan) → AllByRecursion IsSpan spans → AreReferentsMeant spans version referents
        → HasAlone route (names.from_entries (referents_at version route referents)) (referents_on made)))
        → IfOk result (λ made. HasAlone route (referents_seen stands.contents version route) (referents_on made))
    referents_there route (Ok made) brings =
        brings stands.contents.referents.referents stands.contents.referents.used stands.contents.directory.accepted referents_lie (routes_at version routes) spans_at_version meant_there
    referents_there route (Err why) brings = tt

    pub not_damaged : (OfThose (working d store.pager) store.file.referents (λ referents. (spans : List RouteSpan) → AllByRecursion IsSpan spans → AreReferentsMeant spans version referents → ⊥)) → ⊥
    not_damaged none =
        none stands.contents.referents.referents stands.contents.referents.used stands.contents.directory.accepted referents_lie (routes_at version routes) spans_at_version meant_there
