-- What reads of a store that is looked at from a version on pass on: what it shows, and why one is refused that others went before.
use Rattle.std.proofs.Common.{◌≡◌, ◌≤◌, ◌∙◌, ◌&&◌, ℕ, true, false, List, [], ◌∷◌, ap, arith, inl, inr, length, le-leb, subst, sym}
use Rattle.std.specs.FinMap as names
use Rattle.std.specs.Prelude.{if◌then◌else◌, nat_le}
use Rattle.rs_catalog.specs.Definitions.{Definitions, no_definitions, no_places}
use Rattle.rs_catalog_pages.specs.Items.{RouteItem}
use Rattle.rs_answers.specs.Versions.{SeenVersion}
use Rattle.rs_disk.specs.declared.disk.Disk as disk
use Rattle.rs_engine.specs.Kept.{tables_in}
use Rattle.rs_engine.specs.Reads.{ReadsFrom, ShowsVersion, WantsFrom}
use Rattle.rs_exec.specs.Snapshot.{Snapshots}
use Rattle.rs_file.specs.Contents.{Contents}
use Rattle.rs_file.specs.declared.opened.OpenedFile.{OpenedFile}
use Rattle.rs_file_meaning.specs.Seen.{born_by, is_born}
use Rattle.rs_file_meaning.specs.States.{named_route, tables_named}
use Rattle.rs_machine.specs.State.{State}
use Rattle.rs_machine.specs.declared.limits.TheConstants.{ROUTES}
use Rattle.rs_refusal.proofs.CountLemmas.{Rose-after_le}
use Rattle.rs_refusal.specs.declared.refusal.Refusal.{Refusal}
use Rattle.rs_file_meaning.proofs.Named.{len_by, order_kept}
use Rattle.rs_store_source.specs.Kept.{StandsIn, StoreState}
use Rattle.rs_store_source.proofs.Passing.{stands_on}
use Rattle.rs_store_source.proofs.States.{stands_shown}
use Rattle.rs_store_source.specs.Shown.{Shows, ends_seen, no_snapshot, places_seen, shown_from, snapshot_at, table_there}

-- ---- snapshots

-- the tables in memory are those of the contents
pub tables_same : (definitions : Definitions) (contents : Contents) → definitions.tables ≡ tables_named contents.definitions.tables → (version : ℕ)
    → snapshot_at definitions contents version ≡ snapshot_at (tables_in contents) contents version
tables_same definitions contents are version = λ i. record {
  rows = λ table route. if table_there (record no_definitions { tables = are i }) table then places_seen contents version table.number route else no_places;
  ends = ends_seen contents version;
}

-- a live version is shown
pub shown_live : (definitions : Definitions) (contents : Contents) (oldest accepted version : ℕ) → oldest ≤ version → version ≤ accepted
    → shown_from definitions contents oldest accepted version ≡ snapshot_at definitions contents version
shown_live definitions contents oldest accepted version low high =
    ap (λ b. if b && nat_le version accepted then snapshot_at definitions contents version else no_snapshot) (le-leb oldest version low)
    ∙ ap (λ b. if true && b then snapshot_at definitions contents version else no_snapshot) (le-leb version accepted high)

-- ---- how many routes a version has

fewer : (version : ℕ) (routes : List RouteItem) → length (born_by version routes) ≤ length routes
fewer version [] = omega arith
fewer version (route ∷ routes) = elim (is_born version route) as (λ b. length (if b then (route ∷ born_by version routes) else born_by version routes) ≤ length (route ∷ routes)) [
  | true ↦ omega (arith, fewer version routes)
  | false ↦ omega (arith, fewer version routes)
]

module _ {D : Type 0} (d : disk.Ghosts D) where
  -- ---- what passes

  passes_from : (oldest : ℕ) (old : StoreState D) (from : ℕ) (new : StoreState D) → ReadsFrom d oldest old from new → (state : State) → StandsIn d oldest old state → StandsIn d from new state
  passes_from oldest old from new reads state stands = subst (λ (version : ℕ). StandsIn d version new state) (sym reads.oldest_stays) (stands_on d oldest old new reads.store state stands)

  pub wants_from_later : (why : Refusal) (one : ℕ) (a : StoreState D) (two : ℕ) (b c : StoreState D) → ReadsFrom d one a two b → WantsFrom d why two b c → WantsFrom d why one a c
  wants_from_later why one a two b c passed (inl memory) = inl memory
  wants_from_later why one a two b c passed (inr (inl failed)) = inr (inl (failed.0, Rose-after_le _ _ _ passed.store.failures failed.1))
  wants_from_later why one a two b c passed (inr (inr damaged)) =
      inr (inr (damaged.0, record { none = λ state stands. damaged.1.none state (passes_from one a two b passed state stands) }))

  -- ---- what is shown

  -- what a version shows goes on being shown
  pub version_stays : (oldest : ℕ) (old : StoreState D) (from : ℕ) (new : StoreState D) → ReadsFrom d oldest old from new → (version : ℕ) (seen : SeenVersion)
      → ShowsVersion d oldest old version seen → ShowsVersion d from new version seen
  version_stays oldest old from new reads version seen shows = record {
    state = shows.state;
    stands = record {
      contents = shows.stands.contents;
      keeps = reads.store.keeps.contents shows.stands.contents shows.stands.keeps;
      live = omega (arith, shows.stands.live, reads.oldest_stays);
      meant = record { definitions = shows.stands.meant.definitions; records = λ one low high. shows.stands.meant.records one (omega (arith, low, reads.oldest_stays)) high };
      is = shows.stands.is;
      views = shows.stands.views;
    };
    from = omega (arith, shows.from, reads.oldest_stays);
    upto = omega (arith, shows.upto, ap (λ (file : OpenedFile). file.accepted) reads.store.keeps.file);
    is = shows.is;
  }

  module _ (oldest : ℕ) (store : StoreState D) (version : ℕ) (seen : SeenVersion) (shows : ShowsVersion d oldest store version seen) where
    abbrev pub snapshots_of : Snapshots
    snapshots_of = shown_from store.catalog shows.stands.contents oldest store.file.accepted

    pub snapshots_shown : Shows d oldest store snapshots_of
    snapshots_shown = stands_shown d oldest store shows.state shows.stands

    -- the snapshot of the version has its rows
    pub rows_there : snapshots_of version ≡ seen.snapshot
    rows_there =
        shown_live store.catalog shows.stands.contents oldest store.file.accepted version shows.from shows.upto
        ∙ tables_same store.catalog shows.stands.contents shows.stands.keeps.memory.catalog.tables version
        ∙ sym (ap (λ (one : SeenVersion). one.snapshot) shows.is)

    -- it shows no more routes than there may be
    pub routes_few : names.len seen.routes ≤ ROUTES
    routes_few =
        let routes = shows.stands.contents.definitions.routes in
        let order = order_kept (λ (r : RouteItem). r.name) (is_born version) routes shows.stands.meant.definitions.routes.in_order in
        omega (
          arith,
          ap (λ (one : SeenVersion). names.len one.routes) shows.is,
          len_by (λ (r : RouteItem). r.name) (λ (r : RouteItem). (named_route r).1) (born_by version routes) order,
          fewer version routes,
          shows.stands.meant.definitions.routes.few,
        )
