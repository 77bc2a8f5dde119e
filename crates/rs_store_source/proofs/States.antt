-- The tables of the state of a store, and what they have on a route.
use Rattle.std.proofs.Common.{◌≡◌, ◌≤◌, ◌&&◌, ◌||◌, ◌==◌, ◌∙◌, ℕ, Bool, true, false, cond, nat_le, Some, Option, List, [], ◌∷◌, ap, length, refl, sym, arith}
use Rattle.std.specs.FinMap as names
use Rattle.std.specs.FinMap.{find, get-entries}
use Rattle.std.specs.List.{AllByRecursion, list_any}
use Rattle.std.specs.Option.{option_map}
use Rattle.std.specs.Ordering.{eq_by_cmp}
use Rattle.std.proofs.lemmas.Bool.{and_from, eq-eqb, false≢true, le-leb, leb-true}
use Rattle.std.proofs.lemmas.Option.{none-some, same_Some}
use Rattle.rs_catalog.specs.Definitions.{Definitions, RouteItem, TableItem, facts_from, no_places, on_numbered, state_from, table_from, tables_from}
use Rattle.rs_catalog.specs.Referents.{referents_on}
use Rattle.rs_catalog.proofs.Names.{each_entry, get-map_values}
use Rattle.rs_catalog.proofs.StateLaws.{get-tables_from}
use Rattle.rs_disk.specs.declared.disk.Disk as disk
use Rattle.rs_exec.specs.Snapshot.{Snapshot, Snapshots}
use Rattle.rs_facts.specs.Fact.{Name, Names, Places, name_cmp}
use Rattle.rs_facts.specs.Query.{Table, facts_of}
use Rattle.rs_facts.specs.Runs.{Stretch}
use Rattle.rs_facts.specs.Spans.{places_of}
use Rattle.rs_file_meaning.specs.Seen.{born_by, spans_seen}
use Rattle.rs_file_meaning.specs.States.{routes_named, tables_named, world_at}
use Rattle.rs_machine.specs.State.{State, no_cursors}
use Rattle.rs_file_meaning.specs.States as standing
use Rattle.rs_store.specs.Kept.{StandsIn, StoreState}
use Rattle.rs_store_source.specs.Shown.{Shows, is_table, no_snapshot, numbered_as, places_seen, same_kind, shown_from, snapshot_at, table_there}
use Rattle.rs_store_source.proofs.SameKind.{kind_itself}

-- a table of the state, by its name
pub table_at : (definitions : Definitions) (spans : ℕ → ℕ → List Stretch) (name : Name) (item : TableItem) → names.get definitions.tables name ≡ Some item
    → names.get (tables_from definitions spans) name ≡ Some (table_from definitions.routes spans item)
table_at definitions spans name item there = get-tables_from definitions spans name ∙ ap (option_map (table_from definitions.routes spans)) there

-- what it has on a route
pub facts_there : (definitions : Definitions) (spans : ℕ → ℕ → List Stretch) (item : TableItem) (route : Name) (on : RouteItem) → names.get definitions.routes route ≡ Some on
    → (table_from definitions.routes spans item).facts route ≡ places_of (spans item.number on.number)
unfolding facts_from
facts_there definitions spans item route on at = ap (on_numbered no_places (λ (number : ℕ). places_of (spans item.number number))) at

-- ---- tests on what stands under names

pub any_first : (a b : Bool) → a ≡ true → (a || b) ≡ true
any_first true b e = refl
any_first false b e = absurd (false≢true e)

pub any_more : (a b : Bool) → b ≡ true → (a || b) ≡ true
any_more true b e = refl
any_more false b e = e

module _ {X : Type 0} (test : X → Bool) where
  finds_any : (entries : List (Name × X)) (name : Name) (x : X) → find name_cmp name entries ≡ Some x → test x ≡ true → list_any (λ e. test e.1) entries ≡ true
  finds_any [] name x there passes = absurd (none-some x there)
  finds_any (e ∷ es) name x there passes =
      elim (eq_by_cmp name_cmp name e.0) as (λ b. cond b (Some e.1) (find name_cmp name es) ≡ Some x → list_any (λ e. test e.1) (e ∷ es) ≡ true) [
        | true ↦ λ f. any_first (test e.1) (list_any (λ e. test e.1) es) (ap test (same_Some e.1 x f) ∙ passes)
        | false ↦ λ f. any_more (test e.1) (list_any (λ e. test e.1) es) (finds_any es name x f passes)
      ] there

  pub some_entry : (values : Names X) (name : Name) (x : X) → names.get values name ≡ Some x → test x ≡ true → list_any (λ e. test e.1) (names.entries values) ≡ true
  some_entry values name x there passes = finds_any (names.entries values) name x (sym (get-entries values name) ∙ there) passes

  no_entry_in : (P : Name × X → Type 0) (entries : List (Name × X)) → ((e : Name × X) → P e → test e.1 ≡ false) → AllByRecursion P entries → list_any (λ e. test e.1) entries ≡ false
  no_entry_in P [] off all = refl
  no_entry_in P (e ∷ es) off all = ap (λ b. b || list_any (λ e. test e.1) es) (off e all.0) ∙ no_entry_in P es off all.1

  pub no_entry : (values : Names X) → ((name : Name) (x : X) → names.get values name ≡ Some x → test x ≡ false) → list_any (λ e. test e.1) (names.entries values) ≡ false
  no_entry values off = no_entry_in (λ e. names.get values e.0 ≡ Some e.1) (names.entries values) (λ e there. off e.0 e.1 there) (each_entry values)

-- ---- what is shown

is_itself : (item : TableItem) → is_table (numbered_as item) item ≡ true
unfolding is_table
is_itself item =
    let columns = length item.columns in
    and_from (item.number == item.number) (same_kind item.kind item.kind && columns == columns) (eq-eqb item.number item.number refl)
    (and_from (same_kind item.kind item.kind) (columns == columns) (kind_itself item.kind) (eq-eqb columns columns refl))

pub there_itself : (definitions : Definitions) (name : Name) (item : TableItem) → names.get definitions.tables name ≡ Some item → table_there definitions (numbered_as item) ≡ true
there_itself definitions name item there = some_entry (is_table (numbered_as item)) definitions.tables name item there (is_itself item)

not_live : (oldest version accepted : ℕ) → (oldest ≤ version → version ≤ accepted → ⊥) → (nat_le oldest version && nat_le version accepted) ≡ false
not_live oldest version accepted out = of (nat_le oldest version) (nat_le version accepted) refl refl where
  of : (low high : Bool) → nat_le oldest version ≡ low → nat_le version accepted ≡ high → (low && high) ≡ false
  of false high is are = refl
  of true false is are = refl
  of true true is are = absurd (out (leb-true oldest version is) (leb-true version accepted are))

module _ {D : Type 0} (d : disk.Ghosts D) where
  -- what the law says of the state of a store
  abbrev pub StateIs : Type 0
  StateIs = (oldest : ℕ) (store : StoreState D) (state : State) (stands : StandsIn d oldest store state)
      → state ≡ state_from store.catalog (λ (route : ℕ). referents_on store.referents route) (spans_seen stands.contents store.file.accepted)
      (record { changes = store.file.accepted; cursors = no_cursors })

  pub rows_of_state : StateIs → (oldest : ℕ) (store : StoreState D) (snapshots : Snapshots) (shows : Shows d oldest store snapshots)
      → (name : Name) (item : TableItem) → names.get store.catalog.tables name ≡ Some item
      → (route : Name) (on : RouteItem) → names.get store.catalog.routes route ≡ Some on → (k : ℕ)
      → (snapshots store.file.accepted).rows (numbered_as item) on.number k ≡ facts_of (names.get shows.state.tables name) route k
  rows_of_state state_is oldest store snapshots shows name item there route on at k =
      let stands = shows.stands in
      let contents = stands.contents in
      let accepted = store.file.accepted in
      let spans = spans_seen contents accepted in
      let low : oldest ≤ accepted = omega (arith, stands.live, stands.keeps.opened.accepted) in
      let table : names.get shows.state.tables name ≡ Some (table_from store.catalog.routes spans item) =
      ap (λ (s : State). names.get s.tables name) (state_is oldest store shows.state stands) ∙ table_at store.catalog spans name item there in
      ap (λ (s : Snapshot). s.rows (numbered_as item) on.number k) (shows.live accepted low (omega arith))
      ∙ ap (λ (b : Bool). (cond b (places_seen contents accepted item.number on.number) no_places) k) (there_itself store.catalog name item there)
      ∙ sym (ap (λ (places : Places). places k) (facts_there store.catalog spans item route on at))
      ∙ sym (ap (λ (o : Option Table). facts_of o route k) table)

  -- at each live version
  pub rows_of_version : (oldest : ℕ) (store : StoreState D) (snapshots : Snapshots) (shows : Shows d oldest store snapshots)
      → (version : ℕ) → oldest ≤ version → version ≤ store.file.accepted
      → (name : Name) (item : TableItem) → names.get store.catalog.tables name ≡ Some item
      → (route : Name) (on : RouteItem) → names.get (routes_named (born_by version shows.stands.contents.definitions.routes)) route ≡ Some on → (k : ℕ)
      → (snapshots version).rows (numbered_as item) on.number k ≡ facts_of (names.get (world_at shows.stands.contents version).tables name) route k
  unfolding facts_from
  rows_of_version oldest store snapshots shows version low high name item there route on at k =
      let contents = shows.stands.contents in
      let named : names.get (tables_named contents.definitions.tables) name ≡ Some item =
      sym (ap (λ (tables : Names TableItem). names.get tables name) shows.stands.keeps.memory.catalog.tables) ∙ there in
      let table : names.get (world_at contents version).tables name ≡ Some (standing.table_at contents version item) =
      get-map_values (standing.table_at contents version) (tables_named contents.definitions.tables) name ∙ ap (option_map (standing.table_at contents version)) named in
      ap (λ (s : Snapshot). s.rows (numbered_as item) on.number k) (shows.live version low high)
      ∙ ap (λ (b : Bool). (cond b (places_seen contents version item.number on.number) no_places) k) (there_itself store.catalog name item there)
      ∙ sym (ap (λ (o : Option RouteItem). on_numbered no_places (λ (number : ℕ). places_seen contents version item.number number) o k) at)
      ∙ sym (ap (λ (o : Option Table). facts_of o route k) table)

  -- a store that stands in a state shows what its versions see
  pub stands_shown : (oldest : ℕ) (store : StoreState D) (state : State) (stands : StandsIn d oldest store state) → Shows d oldest store (shown_from store.catalog stands.contents oldest store.file.accepted)
  stands_shown oldest store state stands = record {
    state = state;
    stands = stands;
    live = λ version low high.
        ap (λ (b : Bool). cond b (snapshot_at store.catalog stands.contents version) no_snapshot)
        (and_from (nat_le oldest version) (nat_le version store.file.accepted) (le-leb oldest version low) (le-leb version store.file.accepted high));
    others = λ version out table route k.
        ap (λ (b : Bool). (cond b (snapshot_at store.catalog stands.contents version) no_snapshot).rows table route k) (not_live oldest version store.file.accepted out);
    nowhere = λ version out route. ap (λ (b : Bool). (cond b (snapshot_at store.catalog stands.contents version) no_snapshot).ends route) (not_live oldest version store.file.accepted out);
  }
