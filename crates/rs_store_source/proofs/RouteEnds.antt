-- The ends of routes by their numbers, at each live version.
use Rattle.std.proofs.Common.{◌≡◌, ◌≤◌, ◌==◌, ◌∙◌, ℕ, true, false, cond, List, [], ◌∷◌, Some, ap, refl, sym, arith}
use Rattle.std.specs.FinMap as names
use Rattle.std.specs.FinMap.{find, get-entries}
use Rattle.std.specs.List.{AllByRecursion}
use Rattle.std.specs.Option.{option_map}
use Rattle.std.specs.Ordering.{eq_by_cmp}
use Rattle.std.specs.Prelude.{if◌then◌else◌}
use Rattle.std.proofs.lemmas.Bool.{eqb-false, eqb-true}
use Rattle.std.proofs.lemmas.Option.{none-some, same_Some}
use Rattle.rs_catalog.specs.Definitions as catalog
use Rattle.rs_catalog.specs.Definitions.{AreNumbered}
use Rattle.rs_catalog.proofs.Names.{each_entry, get-map_values}
use Rattle.rs_catalog_meaning.specs.Meaning.{AreRoutes}
use Rattle.rs_catalog_pages.specs.Items.{RouteItem}
use Rattle.rs_disk.specs.declared.disk.Disk as disk
use Rattle.rs_exec.specs.Snapshot.{Snapshot, Snapshots}
use Rattle.rs_facts.specs.Fact.{Name, Names, name_cmp}
use Rattle.rs_file_meaning.proofs.Named.{item_of, order_kept}
use Rattle.rs_file_meaning.proofs.Picked.{kept_there, same_numbered}
use Rattle.rs_file_meaning.specs.Seen.{born_by, is_born}
use Rattle.rs_file_meaning.specs.States.{named_route, routes_named, world_at}
use Rattle.rs_store.proofs.Visible.{are_at}
use Rattle.rs_store.specs.Kept.{StoreState}
use Rattle.rs_store.specs.Versions.{routes_by}
use Rattle.rs_store_source.specs.Shown.{Shows, ends_with}

-- ---- what stands under a name has its ends by its number

module _ (routes : Names catalog.RouteItem) (numbered : AreNumbered (λ (item : catalog.RouteItem). item.number) routes)
    (name : Name) (on : catalog.RouteItem) (there : names.get routes name ≡ Some on) where
  ends_among : (entries : List (Name × catalog.RouteItem)) → AllByRecursion (λ e. names.get routes e.0 ≡ Some e.1) entries → find name_cmp name entries ≡ Some on
      → ends_with entries on.number ≡ Some on.ends
  ends_among [] each found = absurd (none-some on found)
  ends_among (e ∷ es) each found =
      elim (e.1.number == on.number) as (λ b. (e.1.number == on.number) ≡ b → (if b then Some e.1.ends else ends_with es on.number) ≡ Some on.ends) [
        | true ↦ λ same.
            let named : e.0 ≡ name = numbered e.0 name e.1 on each.0 there (eqb-true e.1.number on.number same) in
            ap (λ (item : catalog.RouteItem). Some item.ends) (same_Some e.1 on (sym each.0 ∙ ap (names.get routes) named ∙ there))
        | false ↦ λ other.
            elim (eq_by_cmp name_cmp name e.0) as (λ b. cond b (Some e.1) (find name_cmp name es) ≡ Some on → ends_with es on.number ≡ Some on.ends) [
              | true ↦ λ here. absurd (eqb-false e.1.number on.number other (ap (λ (item : catalog.RouteItem). item.number) (same_Some e.1 on here)))
              | false ↦ λ later. ends_among es each.1 later
            ] found
      ] refl

  ends_there : ends_with (names.entries routes) on.number ≡ Some on.ends
  ends_there = ends_among (names.entries routes) (each_entry routes) (sym (get-entries routes name) ∙ there)

-- ---- at each live version

-- the routes that a version sees have numbers of their own
seen_numbered : (version : ℕ) (routes : List RouteItem) → AreRoutes routes → AreNumbered (λ (item : catalog.RouteItem). item.number) (routes_named (born_by version routes))
seen_numbered version routes are a b x y one other same =
    let seen = born_by version routes in
    let order = order_kept (λ (r : RouteItem). r.name) (is_born version) routes are.in_order in
    let p = item_of (λ (r : RouteItem). r.name) (λ (r : RouteItem). (named_route r).1) seen a x order one in
    let q = item_of (λ (r : RouteItem). r.name) (λ (r : RouteItem). (named_route r).1) seen b y order other in
    let number : p.item.number ≡ q.item.number = ap (λ (item : catalog.RouteItem). item.number) p.is ∙ same ∙ sym (ap (λ (item : catalog.RouteItem). item.number) q.is) in
    let item : p.item ≡ q.item =
    same_numbered (λ (r : RouteItem). r.number) routes p.item q.item (kept_there (is_born version) routes p.item p.there) (kept_there (is_born version) routes q.item q.there) number
    (are.numbers_once p.item.number) in
    sym p.named ∙ ap (λ (r : RouteItem). r.name) item ∙ q.named

module _ {D : Type 0} (d : disk.Ghosts D) (oldest : ℕ) (store : StoreState D) (snapshots : Snapshots) (shows : Shows d oldest store snapshots) where
  ends_seen_there : (version : ℕ) → oldest ≤ version → version ≤ store.file.accepted
      → (route : Name) (on : catalog.RouteItem) → names.get (routes_named (born_by version shows.stands.contents.definitions.routes)) route ≡ Some on
      → (snapshots version).ends on.number ≡ Some on.ends
  ends_seen_there version low high route on at =
      let routes = shows.stands.contents.definitions.routes in
      ap (λ (s : Snapshot). s.ends on.number) (shows.live version low high)
      ∙ ends_there (routes_named (born_by version routes)) (seen_numbered version routes shows.stands.meant.definitions.routes) route on at

  -- those of the version's world
  pub ends_of_version : (version : ℕ) → oldest ≤ version → version ≤ store.file.accepted
      → (route : Name) (on : catalog.RouteItem) → names.get (routes_named (born_by version shows.stands.contents.definitions.routes)) route ≡ Some on
      → (snapshots version).ends on.number ≡ names.get (world_at shows.stands.contents version).routes route
  ends_of_version version low high route on at =
      ends_seen_there version low high route on at
      ∙ sym (get-map_values (λ (item : catalog.RouteItem). item.ends) (routes_named (born_by version shows.stands.contents.definitions.routes)) route
      ∙ ap (option_map (λ (item : catalog.RouteItem). item.ends)) at)

  -- those of the catalogue
  pub ends_of_state : (route : Name) (on : catalog.RouteItem) → names.get store.catalog.routes route ≡ Some on → (snapshots store.file.accepted).ends on.number ≡ Some on.ends
  ends_of_state route on there =
      let stands = shows.stands in
      let routes = stands.contents.definitions.routes in
      let level : stands.contents.directory.accepted ≡ store.file.accepted = stands.keeps.opened.accepted in
      let seen : store.catalog.routes ≡ routes_named (born_by store.file.accepted routes) = stands.keeps.memory.catalog.routes ∙ ap (λ (version : ℕ). routes_named (born_by version routes)) level in
      ends_seen_there store.file.accepted (omega (arith, stands.live, level)) (omega arith) route on (sym (ap (λ (kept : Names catalog.RouteItem). names.get kept route) seen) ∙ there)

  -- those of the routes of the catalogue that were born by it
  pub ends_shown : (version route : ℕ) → oldest ≤ version → version ≤ store.file.accepted → ends_with (routes_by version store.catalog) route ≡ (snapshots version).ends route
  ends_shown version route low high =
      ap (λ (entries : List (Name × catalog.RouteItem)). ends_with entries route) (are_at d oldest store shows.state shows.stands version).are
      ∙ sym (ap (λ (s : Snapshot). s.ends route) (shows.live version low high))
