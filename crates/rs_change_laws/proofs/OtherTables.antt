-- A table that comes or goes: the state that a file has then.
use Rattle.std.proofs.Common.{◌≡◌, ◌<◌, ◌≤◌, ◌+◌, ◌∙◌, ℕ, false, List, [], ◌∷◌, ◌++◌, Some, inl, inr, length, refl, sym, ap, subst, arith}
use Rattle.std.proofs.Math.Path.{fun_ext}
use Rattle.std.specs.Prelude.{Contains, slice_get}
use Rattle.std.specs.FinMap as names
use Rattle.std.proofs.lemmas.Option.{none-some}
use Rattle.rs_catalog.specs.Changes as changes
use Rattle.rs_catalog.specs.Definitions as catalog
use Rattle.rs_catalog.specs.Definitions.{AreDefinitions, Definitions, IsFree, Numbered, state_from}
use Rattle.rs_catalog.specs.Referents.{HeldReferents, referents_on}
use Rattle.rs_catalog.proofs.DefinitionLaws.{are_definitions-without_table}
use Rattle.rs_catalog_laws.specs.Rest.{one_more}
use Rattle.rs_catalog_laws.proofs.Tables.{state_with_table, state_without_table_and_rows}
use Rattle.rs_catalog_meaning.specs.Meaning.{AreMeant}
use Rattle.rs_catalog_pages.specs.Items.{CatalogueItems, TableItem}
use Rattle.rs_cell_versions.specs.declared.cell.TheConstants.{LIVING}
use Rattle.rs_facts.specs.Fact.{Name, Names}
use Rattle.rs_facts.specs.Runs.{Stretch}
use Rattle.rs_facts.specs.Spans.{places_of}
use Rattle.rs_file_parts.specs.Contents.{AreGivenOnce, Contents, TableContents, table_numbers}
use Rattle.rs_file_parts.specs.OpenedFile.{OpenedFile}
use Rattle.rs_machine.specs.Lawful.{Each, IsLawful}
use Rattle.rs_machine.specs.State.{State, has}
use Rattle.rs_machine.specs.Step as machine
use Rattle.rs_page_owners.specs.Counts.{times}
use Rattle.rs_stored_catalog.specs.Listing.{listed_table, listing_of}
use Rattle.rs_stored_catalog.specs.Relisting.{AreLawful, HasTableMore, LosesTable}
use Rattle.rs_table_changes.proofs.Turning.{none_turned}
use Rattle.rs_page_owners.proofs.Moving.{one_at-same}
use Rattle.rs_pages.specs.PageMap.{PageMap}
use Rattle.rs_value.specs.declared.column.ColumnType.{ColumnType}
use Rattle.rs_versioned.specs.Events.{Event, spans_at}
use Rattle.rs_file_meaning.specs.Changed.{HasTableBetween, HaveOwnNumbers, TableComes}
use Rattle.rs_file_meaning.specs.Live.{KeepsLive}
use Rattle.rs_file_meaning.specs.Meant.{IsMeant}
use Rattle.rs_file_meaning.specs.Seen.{events_of, events_with, referents_seen, spans_seen}
use Rattle.rs_file_meaning.specs.States.{named_table, tables_named}
use Rattle.rs_change_laws.specs.Changing.{GivesState, HasNoTable, HasTurned, next_of}
use Rattle.rs_change_laws.specs.Parts.{PutsTable, TakesTable}
use Rattle.rs_change_laws.specs.Standing.{StandsAt}
use Rattle.rs_file_meaning.proofs.Named.{get_there}
use Rattle.rs_change_laws.proofs.DroppedRoutes.{numbers_of}
use Rattle.rs_change_laws.proofs.NewDefinitions.{Laws, are_born, are_kept, are_lines, listed, next_is_meant, no_value, put_others, put_still, rest, state_is}
use Rattle.rs_change_laws.proofs.TableEvents.{counted_there, events_beside, events_come, none_under, place_of, times_put}
use Rattle.rs_change_laws.proofs.Turned.{same_turned}

-- ---- laws

-- the listing of lawful definitions gives each number once
abbrev ListsOnce : Type 0
ListsOnce = (definitions : Definitions) → AreLawful definitions → AreGivenOnce (listing_of definitions)

abbrev ListsMore : Type 0
ListsMore = (definitions : Definitions) (name : Name) (item : catalog.TableItem) → has definitions.tables name ≡ false
    → HasTableMore (listed_table (name, item)) (listing_of definitions) (listing_of (changes.with_table definitions name item))

abbrev ListsLess : Type 0
ListsLess = (definitions : Definitions) (name : Name) (item : catalog.TableItem) → AreDefinitions definitions → names.get definitions.tables name ≡ Some item
    → LosesTable (listed_table (name, item)) (listing_of definitions) (listing_of (changes.without_table definitions name))

abbrev StaysMeantWithMore : Type 0
StaysMeantWithMore = (oldest : ℕ) (contents : Contents) (definitions : CatalogueItems) (before : List TableContents) (table : TableContents) (after : List TableContents)
    → IsMeant oldest contents → AreMeant definitions → definitions.routes ≡ contents.definitions.routes → TableComes contents definitions before table after
    → IsMeant oldest (record contents { definitions = definitions; tables = before ++ table ∷ after })

abbrev StaysMeantWithLess : Type 0
StaysMeantWithLess = (oldest : ℕ) (contents : Contents) (definitions : CatalogueItems) (item : TableItem) (before : List TableContents) (table : TableContents) (after : List TableContents)
    → IsMeant oldest contents → AreMeant definitions → definitions.routes ≡ contents.definitions.routes → (has : HasTableBetween contents item before table after)
    → definitions.tables ≡ has.first ++ has.last → IsMeant oldest (record contents { definitions = definitions; tables = before ++ after })

abbrev StaysLiveWithMore : Type 0
StaysLiveWithMore = (oldest : ℕ) (contents : Contents) (definitions : CatalogueItems) (before : List TableContents) (table : TableContents) (after : List TableContents)
    → definitions.routes ≡ contents.definitions.routes → HaveOwnNumbers definitions.tables → TableComes contents definitions before table after
    → KeepsLive oldest contents (record contents { definitions = definitions; tables = before ++ table ∷ after })

-- ---- other tables

module _ (laws : Laws) (from : ℕ) (pages : PageMap) (file : OpenedFile) (definitions : Definitions) (held : Numbered HeldReferents) (state : State)
    (stands : StandsAt from pages file definitions held state) (below : stands.contents.directory.accepted + 1 < LIVING) where
  abbrev old : Contents
  old = stands.contents

  abbrev accepted : ℕ
  accepted = old.directory.accepted

  abbrev next : ℕ
  next = accepted + 1

  abbrev with_tables : Definitions → List ℕ → List TableContents → Contents
  with_tables now numbers tables = record old { definitions = listing_of now; pages = numbers; tables = tables }

  -- the spans that the next version sees are what the present one sees, by the events under each number
  same_spans : (contents : Contents) (table route : ℕ) → events_of contents table ≡ events_of old table → spans_seen contents next table route ≡ spans_seen old accepted table route
  same_spans contents table route same =
      ap (λ (events : List Event). spans_at next route events) same
      ∙ laws.next_spans pages old next stands.holds (omega arith) below table route

  -- definitions with other tables beside the same referents
  module _ (now : Definitions) (after : State) (lawful : AreLawful now) (born : Each now.routes (λ name item. item.born ≤ next)) (numbers : List ℕ) (tables : List TableContents) where
    gives_tables : (oldest : ℕ) → after ≡ state_from now (referents_on held) (spans_seen (next_of (with_tables now numbers tables)) next)
        (one_more (rest laws from pages file definitions held state stands below))
        → KeepsLive oldest old (record old { definitions = listing_of now; tables = tables })
        → IsMeant next (record (next_of old) { definitions = listing_of now; tables = tables }) → HasTurned next old (with_tables now numbers tables)
        → GivesState oldest old (with_tables now numbers tables) now held after
    gives_tables oldest is live meant turned = record {
      turned = turned;
      live = record {
        each = λ version low high. let sees = live.each version low high in record { routes = sees.routes; tables = sees.tables; events = sees.events; referents = sees.referents };
      };
      meant = record {
        definitions = meant.definitions;
        records = λ version low high. let are = meant.records version low high in record { tables = are.tables; referents = are.referents };
      };
      memory = record { catalog = laws.listed_seen next now lawful born; referents = referents };
      is = record {
        definitions = now;
        are = laws.listed_seen next now lawful born;
        is = is ∙ ap (λ (by_number : ℕ → Names ℕ). state_from now by_number (spans_seen (next_of (with_tables now numbers tables)) next)
            (one_more (rest laws from pages file definitions held state stands below))) (fun_ext referents);
      };
    }
      where
        referents : (route : ℕ) → referents_on held route ≡ referents_seen (next_of (with_tables now numbers tables)) next route
        referents route = stands.memory.referents route ∙ sym (laws.next_referents pages old next stands.holds (omega arith) below route)

-- ---- a table that comes

module _ (laws : Laws) (once : ListsOnce) (lists : ListsMore) (stays : StaysMeantWithMore) (lives : StaysLiveWithMore) (from oldest : ℕ) (pages : PageMap) (file : OpenedFile)
    (definitions : Definitions) (held : Numbered HeldReferents) (state : State) (stands : StandsAt from pages file definitions held state)
    (below : stands.contents.directory.accepted + 1 < LIVING) (name : Name) (item : catalog.TableItem) (place : ℕ) (types : List ColumnType) (between : Contents)
    (are : AreDefinitions (changes.with_table definitions name item)) (new : has definitions.tables name ≡ false)
    (free : IsFree (λ (table : catalog.TableItem). table.number) definitions.tables item.number)
    (at : slice_get (table_numbers (listing_of (changes.with_table definitions name item))) place ≡ Some item.number)
    (puts : PutsTable place types (listing_of (changes.with_table definitions name item)) stands.contents between)
    (lawful : IsLawful (machine.with_table state name (machine.empty_table item.kind item.columns))) where
  abbrev was : Contents
  was = stands.contents

  abbrev version : ℕ
  version = was.directory.accepted + 1

  abbrev more : Definitions
  more = changes.with_table definitions name item

  abbrev then : State
  then = machine.with_table state name (machine.empty_table item.kind item.columns)

  abbrev one : TableItem
  one = listed_table (name, item)

  abbrev tables_then : List TableContents
  tables_then = puts.before ++ puts.table ∷ puts.after

  put : HasTableMore one (listing_of definitions) (listing_of more)
  put = lists definitions name item new

  abbrev first : List TableItem
  first = put.tables.before

  abbrev last : List TableItem
  last = put.tables.after

  same : listing_of definitions ≡ was.definitions
  same = listed laws from pages file definitions held state stands below

  were : was.definitions.tables ≡ first ++ last
  were = sym (ap (λ (items : CatalogueItems). items.tables) same) ∙ put.tables.was

  -- its number had no events
  no_events : events_of was item.number ≡ []
  no_events = none_under was.definitions.tables was.tables item.number (λ other there numbered.
      subst (λ (tables : Names catalog.TableItem). IsFree (λ (table : catalog.TableItem). table.number) tables item.number) stands.memory.catalog.tables free
      other.name (named_table other).1
      (get_there (λ (table : TableItem). table.name) (λ table. (named_table table).1) was.definitions.tables other stands.meant.definitions.tables.in_order there) numbered)

  is_before : then ≡ state_from more (referents_on held) (spans_seen was was.directory.accepted) (one_more (rest laws from pages file definitions held state stands below))
  is_before =
      ap (λ (s : State). machine.with_table s name (machine.empty_table item.kind item.columns)) (state_is laws from pages file definitions held state stands below)
      ∙ sym (state_with_table definitions name (referents_on held) (spans_seen was was.directory.accepted) (rest laws from pages file definitions held state stands below) item
      (λ route. ap (λ (events : List Event). places_of (spans_at was.directory.accepted route events)) no_events))

  are_lawful : AreLawful more
  are_lawful = record {
    are = are;
    referents = referents_on held;
    spans = spans_seen was was.directory.accepted;
    rest = one_more (rest laws from pages file definitions held state stands below);
    lawful = subst IsLawful is_before lawful;
    lines = are_lines laws from pages file definitions held state stands below;
  }

  own : HaveOwnNumbers (listing_of more).tables
  own = (once more are_lawful).tables_once

  own_put : HaveOwnNumbers (first ++ one ∷ last)
  own_put = subst HaveOwnNumbers put.tables.is own

  long : length first ≡ length puts.before
  long =
      place_of first one last place (own_put item.number) (subst (λ (items : List TableItem). slice_get (numbers_of items) place ≡ Some item.number) put.tables.is at)
      ∙ sym puts.long

  comes : (contents : Contents) → contents.definitions ≡ was.definitions → contents.tables ≡ was.tables → TableComes contents (listing_of more) puts.before puts.table puts.after
  comes contents items tables = record {
    first = first;
    item = one;
    last = last;
    were = ap (λ (definitions : CatalogueItems). definitions.tables) items ∙ were;
    are = put.tables.is;
    long = long;
    tables = tables ∙ puts.were;
    no_events = puts.no_events;
  }

  routes : (listing_of more).routes ≡ was.definitions.routes
  routes = ap (λ (items : CatalogueItems). items.routes) same

  meant : IsMeant version (record (next_of was) { definitions = listing_of more; tables = tables_then })
  meant = stays version (next_of was) (listing_of more) puts.before puts.table puts.after (next_is_meant laws from pages file definitions held state stands below)
      (laws.listed_meant more are_lawful) routes (comes (next_of was) refl refl)

  live : KeepsLive oldest was (record was { definitions = listing_of more; tables = tables_then })
  live = lives oldest was (listing_of more) puts.before puts.table puts.after routes own (comes was refl refl)

  events_then : (number : ℕ) → events_with (listing_of more).tables tables_then number ≡ events_of was number
  events_then number =
      ap (λ (items : List TableItem). events_with items tables_then number) put.tables.is
      ∙ events_come number first one last puts.before puts.table puts.after long own_put puts.no_events
      ∙ ap (λ (items : List TableItem). events_with items (puts.before ++ puts.after) number) (sym were)
      ∙ ap (λ (tables : List TableContents). events_with was.definitions.tables tables number) (sym puts.were)

  abbrev made : Contents
  made = record was { definitions = listing_of more; pages = between.pages; tables = tables_then }

  whole : between ≡ made
  whole =
      puts.rest
      ∙ ap (λ items. record was { definitions = items; pages = between.pages; tables = between.tables }) puts.definitions_are
      ∙ ap (λ (tables : List TableContents). record was { definitions = listing_of more; pages = between.pages; tables = tables }) puts.are

  is_after : then ≡ state_from more (referents_on held) (spans_seen (next_of made) version) (one_more (rest laws from pages file definitions held state stands below))
  is_after =
      is_before
      ∙ ap (λ (spans : ℕ → ℕ → List Stretch). state_from more (referents_on held) spans (one_more (rest laws from pages file definitions held state stands below)))
      (fun_ext (λ table. fun_ext (λ route. sym (same_spans laws from pages file definitions held state stands below (next_of made) table route (events_then table)))))

  -- no other table had its name
  none_named : HasNoTable was.definitions name
  none_named other there same =
      let found : names.get definitions.tables name ≡ Some (named_table other).1 =
      ap (λ (tables : Names catalog.TableItem). names.get tables name) stands.memory.catalog.tables
      ∙ subst (λ (n : Name). names.get (tables_named was.definitions.tables) n ≡ Some (named_table other).1) same
      (get_there (λ (table : TableItem). table.name) (λ table. (named_table table).1) was.definitions.tables other stands.meant.definitions.tables.in_order there) in
      none-some (named_table other).1 (sym (no_value definitions.tables name new) ∙ found)

  turned_then : HasTurned version was made
  turned_then = record {
    tables = λ table there. elim (put_others one (listing_of definitions).tables (listing_of more).tables put.tables table there) [
      | inl is ↦ inr (subst (λ (t : TableItem). HasNoTable was.definitions t.name) is none_named)
      | inr still ↦ inl (subst (λ (items : CatalogueItems). Contains items.tables table) same still)
    ];
    events = λ table there. same_turned version table.number was made (events_then table.number);
    referents = none_turned version was.referents.referents;
  }

  pub table_gives : GivesState oldest was between more held then
  table_gives =
      subst (λ contents. GivesState oldest was contents more held then) (sym whole)
      (gives_tables laws from pages file definitions held state stands below more then are_lawful (are_born laws from pages file definitions held state stands below)
      between.pages tables_then oldest is_after live meant turned_then)

-- ---- a table that goes

module _ (laws : Laws) (lists : ListsLess) (stays : StaysMeantWithLess) (from oldest : ℕ) (pages : PageMap) (file : OpenedFile) (definitions : Definitions)
    (held : Numbered HeldReferents) (state : State) (stands : StandsAt from pages file definitions held state) (past : oldest ≡ stands.contents.directory.accepted + 1)
    (upto : oldest < LIVING) (name : Name) (item : catalog.TableItem) (place : ℕ) (between : Contents) (there : names.get definitions.tables name ≡ Some item)
    (at : slice_get (table_numbers stands.contents.definitions) place ≡ Some item.number)
    (takes : TakesTable place (listing_of (changes.without_table definitions name)) stands.contents between) (lawful : IsLawful (machine.without_table state name)) where
  abbrev had : Contents
  had = stands.contents

  abbrev following : ℕ
  following = had.directory.accepted + 1

  below : following < LIVING
  below = omega (arith, past, upto)

  abbrev fewer : Definitions
  fewer = changes.without_table definitions name

  abbrev left : State
  left = machine.without_table state name

  abbrev gone : TableItem
  gone = listed_table (name, item)

  abbrev tables_left : List TableContents
  tables_left = takes.before ++ takes.after

  are_had : AreDefinitions definitions
  are_had = are_kept laws from pages file definitions held state stands below

  loses : LosesTable gone (listing_of definitions) (listing_of fewer)
  loses = lists definitions name item are_had there

  abbrev earlier : List TableItem
  earlier = loses.tables.before

  abbrev later : List TableItem
  later = loses.tables.after

  same_listed : listing_of definitions ≡ had.definitions
  same_listed = listed laws from pages file definitions held state stands below

  items_had : had.definitions.tables ≡ earlier ++ gone ∷ later
  items_had = sym (ap (λ (items : CatalogueItems). items.tables) same_listed) ∙ loses.tables.is

  as_long : length earlier ≡ length takes.before
  as_long =
      place_of earlier gone later place (subst HaveOwnNumbers items_had stands.holds.said.numbered.given.tables_once item.number)
      (subst (λ (items : List TableItem). slice_get (numbers_of items) place ≡ Some item.number) items_had at)
      ∙ sym takes.long

  abbrev made_left : Contents
  made_left = record had { definitions = listing_of fewer; pages = between.pages; tables = tables_left }

  whole_left : between ≡ made_left
  whole_left =
      takes.rest
      ∙ ap (λ items. record had { definitions = items; pages = between.pages; tables = between.tables }) takes.definitions_are
      ∙ ap (λ (tables : List TableContents). record had { definitions = listing_of fewer; pages = between.pages; tables = tables }) takes.are

  events_left : (number : ℕ) → (number ≡ item.number → ⊥) → events_of made_left number ≡ events_of had number
  events_left number apart =
      ap (λ (items : List TableItem). events_with items tables_left number) loses.tables.was
      ∙ sym (events_beside number earlier gone later takes.before takes.table takes.after as_long apart)
      ∙ ap (λ (items : List TableItem). events_with items (takes.before ++ takes.table ∷ takes.after) number) (sym items_had)
      ∙ ap (λ (tables : List TableContents). events_with had.definitions.tables tables number) (sym takes.were)

  is_left : left ≡ state_from fewer (referents_on held) (spans_seen (next_of made_left) following) (one_more (rest laws from pages file definitions held state stands below))
  is_left =
      ap (λ (s : State). machine.without_table s name) (state_is laws from pages file definitions held state stands below)
      ∙ sym (state_without_table_and_rows definitions name (referents_on held) (spans_seen had had.directory.accepted) (rest laws from pages file definitions held state stands below)
      (spans_seen (next_of made_left) following) item are_had there
      (λ table apart route. ap places_of (same_spans laws from pages file definitions held state stands below (next_of made_left) table route (events_left table apart))))

  lawful_left : AreLawful fewer
  lawful_left = record {
    are = are_definitions-without_table definitions name are_had;
    referents = referents_on held;
    spans = spans_seen (next_of made_left) following;
    rest = one_more (rest laws from pages file definitions held state stands below);
    lawful = subst IsLawful is_left lawful;
    lines = are_lines laws from pages file definitions held state stands below;
  }

  abbrev has_between : HasTableBetween (next_of had) gone takes.before takes.table takes.after
  has_between = record { first = earlier; last = later; items = items_had; long = as_long; tables = takes.were }

  meant_left : IsMeant following (record (next_of had) { definitions = listing_of fewer; tables = tables_left })
  meant_left = stays following (next_of had) (listing_of fewer) gone takes.before takes.table takes.after (next_is_meant laws from pages file definitions held state stands below)
      (laws.listed_meant fewer lawful_left) (ap (λ (items : CatalogueItems). items.routes) same_listed) has_between loses.tables.was

  -- those that are left have other numbers
  apart_left : (table : TableItem) → Contains (earlier ++ later) table → table.number ≡ item.number → ⊥
  apart_left table there same =
      let once = subst HaveOwnNumbers items_had stands.holds.said.numbered.given.tables_once item.number in
      let here : 1 ≤ times (numbers_of (earlier ++ later)) item.number = subst (λ (n : ℕ). 1 ≤ times (numbers_of (earlier ++ later)) n) same (counted_there (earlier ++ later) table there) in
      omega (arith, once, here, times_put earlier gone later item.number, one_at-same item.number)

  turned_left : HasTurned following had made_left
  turned_left = record {
    tables = λ table there. inl (subst (λ (items : CatalogueItems). Contains items.tables table) same_listed
        (put_still gone (listing_of fewer).tables (listing_of definitions).tables loses.tables table there));
    events = λ table there. same_turned following table.number had made_left
        (events_left table.number (apart_left table (subst (λ (items : List TableItem). Contains items table) loses.tables.was there)));
    referents = none_turned following had.referents.referents;
  }

  pub table_goes : GivesState oldest had between fewer held left
  table_goes =
      subst (λ contents. GivesState oldest had contents fewer held left) (sym whole_left)
      (gives_tables laws from pages file definitions held state stands below fewer left lawful_left (are_born laws from pages file definitions held state stands below)
      between.pages tables_left oldest is_left (record { each = λ at low high. absurd (omega (arith, low, high, past)) }) meant_left turned_left)
