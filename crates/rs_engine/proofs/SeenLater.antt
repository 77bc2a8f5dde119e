-- A live version is shown what it was shown once a change was made that keeps what live versions see.
use Rattle.std.proofs.Common.{◌≡◌, ◌≤◌, ◌==◌, ◌∙◌, ◌||◌, ℕ, Bool, true, false, cond, Some, List, [], ◌∷◌, ap, arith, map, refl, sym}
use Rattle.std.proofs.Math.Path.{fun_ext}
use Rattle.std.proofs.lemmas.Bool.{and_parts, eqb-true, false≢true}
use Rattle.std.proofs.lemmas.List.Elements.{All-contains, All-from_recursion}
use Rattle.std.proofs.lemmas.Option.{none-some, same_Some}
use Rattle.std.specs.FinMap as names
use Rattle.std.specs.FinMap.{find, get-entries}
use Rattle.std.specs.List.{list_any}
use Rattle.std.specs.Ordering.{eq_by_cmp}
use Rattle.std.specs.Prelude.{Contains, if◌then◌else◌}
use Rattle.rs_catalog.specs.Definitions as catalog
use Rattle.rs_catalog.specs.Definitions.{Definitions, no_places}
use Rattle.rs_catalog.proofs.Names.{each_entry}
use Rattle.rs_catalog_meaning.specs.Meaning.{AreInOrder}
use Rattle.rs_catalog_pages.specs.Items.{TableItem}
use Rattle.rs_disk.specs.declared.disk.Disk as disk
use Rattle.rs_engine.specs.Kept.{seen_at, tables_in}
use Rattle.rs_exec.specs.Snapshot.{NumberedTable}
use Rattle.rs_facts.specs.Fact.{Name, Names, Places, name_cmp}
use Rattle.rs_facts.specs.Spans.{places_of}
use Rattle.rs_file.specs.Contents.{Contents, TableContents}
use Rattle.rs_file_meaning.specs.Live.{KeepsLive, SeesTheSame}
use Rattle.rs_file_meaning.specs.Seen.{events_with, referents_seen, spans_seen}
use Rattle.rs_file_meaning.specs.States.{named_table, routes_named, tables_named}
use Rattle.rs_machine.specs.Lawful.{AreDistinct}
use Rattle.rs_machine.specs.State.{State}
use Rattle.rs_page_owners.specs.Counts.{times}
use Rattle.rs_file_meaning.proofs.Named.{first_there, get_there, item_of, later_there}
use Rattle.rs_file_meaning.proofs.Picked.{same_numbered}
use Rattle.rs_store_source.specs.Kept.{StandsIn, StoreState}
use Rattle.rs_store_source.specs.Shown.{ends_with, is_table, table_there}
use Rattle.rs_versioned.specs.Events.{Event, spans_at}
use Rattle.rs_versioned.specs.Referents.{referents_at}

-- ---- what laws say of a version that sees what it saw

abbrev pub FactsStay : Type 0
FactsStay = (version table route : ℕ) (old now : Contents) → SeesTheSame version old now
    → places_of (spans_seen now version table route) ≡ places_of (spans_seen old version table route)

abbrev pub NamesStay : Type 0
NamesStay = (version route : ℕ) (old now : Contents) → SeesTheSame version old now
    → AreDistinct (map (λ one. one.0) (referents_at version route old.referents.referents)) → referents_seen now version route ≡ referents_seen old version route

-- ---- names and what stands under them

-- something under a name passes the test
record Passes {X : Type 0} (test : X → Bool) (values : Names X) : Type 0 where
  pub name : Name
  pub value : X
  pub there : names.get values name ≡ Some value
  pub passes : test value ≡ true

module _ {X : Type 0} (test : X → Bool) where
  abbrev Test : Name × X → Bool
  Test entry = test entry.1

  found_any : (entries : List (Name × X)) → list_any Test entries ≡ true → (entry : Name × X) × Contains entries entry × (test entry.1 ≡ true)
  found_any [] some = absurd (false≢true some)
  found_any (entry ∷ entries) some =
      elim (test entry.1) as (λ b. test entry.1 ≡ b → (b || list_any Test entries) ≡ true → (one : Name × X) × Contains (entry ∷ entries) one × (test one.1 ≡ true)) [
        | true ↦ λ is any. (entry, first_there entry entries, is)
        | false ↦ λ isnt any. let more = found_any entries any in (more.0, later_there entry more.0 entries more.1, more.2)
      ] refl some

  passed : (values : Names X) → list_any Test (names.entries values) ≡ true → Passes test values
  passed values some =
      let found = found_any (names.entries values) some in
      record {
        name = found.0.0;
        value = found.0.1;
        there = All-contains (λ (entry : Name × X). names.get values entry.0 ≡ Some entry.1) (names.entries values) found.0
            (All-from_recursion (λ (entry : Name × X). names.get values entry.0 ≡ Some entry.1) (names.entries values) (each_entry values)) found.1;
        passes = found.2;
      }

  any_found : (entries : List (Name × X)) (name : Name) (value : X) → find name_cmp name entries ≡ Some value → test value ≡ true → list_any Test entries ≡ true
  any_found [] name value there is = absurd (none-some value there)
  any_found (entry ∷ entries) name value there is =
      elim (eq_by_cmp name_cmp name entry.0) as (λ b. cond b (Some entry.1) (find name_cmp name entries) ≡ Some value → (test entry.1 || list_any Test entries) ≡ true) [
        | true ↦ λ here. ap (λ b. b || list_any Test entries) (ap test (same_Some entry.1 value here) ∙ is)
        | false ↦ λ later. either (test entry.1) (list_any Test entries) (any_found entries name value later is)
      ] there
    where
      either : (a b : Bool) → b ≡ true → (a || b) ≡ true
      either true b e = refl
      either false b e = e

  passes_any : (values : Names X) → Passes test values → list_any Test (names.entries values) ≡ true
  passes_any values one = any_found (names.entries values) one.name one.value (sym (get-entries values one.name) ∙ one.there) one.passes

-- ---- the tables in memory

module _ (items : List TableItem) (order : AreInOrder (λ (t : TableItem). t.name) items) (definitions : Definitions) (are : definitions.tables ≡ tables_named items) (table : NumberedTable) where
  -- a table of the file is this one
  record HasTable : Type 0 where
    pub item : TableItem
    pub there : Contains items item
    pub is : is_table table (named_table item).1 ≡ true

  table_listed : table_there definitions table ≡ true → HasTable
  table_listed some =
      let one = passed (is_table table) definitions.tables some in
      let has = item_of (λ (t : TableItem). t.name) (λ (t : TableItem). (named_table t).1) items one.name one.value order
      (sym (ap (λ (tables : Names catalog.TableItem). names.get tables one.name) are) ∙ one.there) in
      record { item = has.item; there = has.there; is = ap (is_table table) has.is ∙ one.passes }

  table_known : HasTable → table_there definitions table ≡ true
  table_known has = passes_any (is_table table) definitions.tables (record {
    name = has.item.name;
    value = (named_table has.item).1;
    there = ap (λ (tables : Names catalog.TableItem). names.get tables has.item.name) are ∙ get_there (λ (t : TableItem). t.name) (λ (t : TableItem). (named_table t).1) items has.item order has.there;
    passes = has.is;
  })

-- its number is the one asked for
number_is : (table : NumberedTable) (item : TableItem) → is_table table (named_table item).1 ≡ true → item.number ≡ table.number
unfolding is_table
number_is table item is = eqb-true item.number table.number (and_parts (item.number == table.number) _ is).0

-- where no table has the number there are no events
no_events : (items : List TableItem) (tables : List TableContents) (number : ℕ) → ((item : TableItem) → Contains items item → item.number ≡ number → ⊥) → events_with items tables number ≡ []
no_events [] tables number none = refl
no_events (item ∷ items) [] number none = refl
no_events (item ∷ items) (table ∷ tables) number none =
    elim (item.number == number) as (λ b. (item.number == number) ≡ b → (if b then table.events else events_with items tables number) ≡ []) [
      | true ↦ λ is. absurd (none item (first_there item items) (eqb-true item.number number is))
      | false ↦ λ isnt. no_events items tables number (λ other there. none other (later_there item other items there))
    ] refl

-- ---- what a version is shown

module _ (facts : FactsStay) (called : NamesStay) (version : ℕ) (old now : Contents) (sees : SeesTheSame version old now)
    (was_order : AreInOrder (λ (t : TableItem). t.name) old.definitions.tables) (is_order : AreInOrder (λ (t : TableItem). t.name) now.definitions.tables)
    (once : (number : ℕ) → times (map (λ (t : TableItem). t.number) now.definitions.tables) number ≤ 1)
    (distinct : (route : ℕ) → AreDistinct (map (λ one. one.0) (referents_at version route old.referents.referents))) where
  abbrev was : Definitions
  was = tables_in old

  abbrev is : Definitions
  is = tables_in now

  still_there : (table : NumberedTable) → table_there was table ≡ true → table_there is table ≡ true
  still_there table there =
      let has = table_listed old.definitions.tables was_order was refl table there in
      table_known now.definitions.tables is_order is refl table (record { item = has.item; there = sees.tables has.item has.there; is = has.is })

  -- a table that has come had no number before
  new_number : (table : NumberedTable) → table_there was table ≡ false → table_there is table ≡ true → (item : TableItem) → Contains old.definitions.tables item → item.number ≡ table.number → ⊥
  new_number table none there item among numbered =
      let has = table_listed now.definitions.tables is_order is refl table there in
      let same = same_numbered (λ (t : TableItem). t.number) now.definitions.tables item has.item (sees.tables item among) has.there
      (numbered ∙ sym (number_is table has.item has.is)) (once item.number) in
      false≢true (sym none ∙ table_known old.definitions.tables was_order was refl table
      (record { item = item; there = among; is = ap (λ (t : TableItem). is_table table (named_table t).1) same ∙ has.is }))

  abbrev places : Contents → NumberedTable → ℕ → Places
  places contents table route = places_of (spans_seen contents version table.number route)

  places_stay : (table : NumberedTable) (route : ℕ) → places now table route ≡ places old table route
  places_stay table route = facts version table.number route old now sees

  no_places_then : (table : NumberedTable) (route : ℕ) → table_there was table ≡ false → table_there is table ≡ true → places now table route ≡ no_places
  no_places_then table route none there =
      places_stay table route
      ∙ ap (λ (events : List Event). places_of (spans_at version route events)) (no_events old.definitions.tables old.tables table.number (new_number table none there))

  rows_stay : (table : NumberedTable) (route : ℕ) → (if table_there is table then places now table route else no_places) ≡ (if table_there was table then places old table route else no_places)
  rows_stay table route =
      elim (table_there was table) as (λ b. table_there was table ≡ b → (if table_there is table then places now table route else no_places) ≡ (if b then places old table route else no_places)) [
        | true ↦ λ there. ap (λ b. if b then places now table route else no_places) (still_there table there) ∙ places_stay table route
        | false ↦ λ none. elim (table_there is table) as (λ b. table_there is table ≡ b → (if b then places now table route else no_places) ≡ no_places) [
          | true ↦ λ there. no_places_then table route none there
          | false ↦ λ none_now. refl
        ] refl
      ] refl

  pub seen_stays : seen_at now version ≡ seen_at old version
  seen_stays = λ i. record {
    routes = routes_named (sees.routes i);
    referents = fun_ext (λ route. called version route old now sees (distinct route)) i;
    snapshot = record { rows = fun_ext (λ table. fun_ext (λ route. rows_stay table route)) i; ends = ends_with (names.entries (routes_named (sees.routes i))) };
  }

-- ---- after a change of a store

pub seen_later : {D : Type 0} (d : disk.Ghosts D) → FactsStay → NamesStay → (from oldest : ℕ) (old new : StoreState D) (state next : State)
    (stands : StandsIn d from old state) (now : StandsIn d oldest new next) → KeepsLive oldest stands.contents now.contents
    → (version : ℕ) → from ≤ version → oldest ≤ version → version ≤ old.file.accepted
    → seen_at now.contents version ≡ seen_at stands.contents version
seen_later d facts called from oldest old new state next stands now keeps version low live high =
    let upto : version ≤ stands.contents.directory.accepted = omega (arith, high, stands.keeps.opened.accepted) in
    seen_stays facts called version stands.contents now.contents (keeps.each version live upto)
    stands.meant.definitions.tables.in_order now.meant.definitions.tables.in_order
    now.keeps.holds.said.numbered.given.tables_once (stands.meant.records version low upto).referents.once
