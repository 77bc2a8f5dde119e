-- What versions mean they mean where they see the same.
use Rattle.std.proofs.Common.{◌≡◌, ◌<◌, ◌≤◌, ◌+◌, ◌==◌, ◌⊎◌, ◌∙◌, inl, inr, ℕ, true, false, List, [], ◌∷◌, map, refl, sym, ap, subst, arith}
use Rattle.std.specs.Prelude.{Contains, if◌then◌else◌}
use Rattle.std.specs.List.{AllByRecursion, AllZip}
use Rattle.std.specs.List.Sorted.{IsPermutation}
use Rattle.std.proofs.lemmas.Bool.{cases_lt, eqb-false, eqb-true}
use Rattle.std.proofs.lemmas.List.Sorted.{IsPermutation-refl}
use Rattle.rs_catalog_meaning.specs.Meaning.{AreMeant}
use Rattle.rs_catalog_meaning.specs.Stating.{kind_of}
use Rattle.rs_catalog_pages.specs.Items.{CatalogueItems, RouteItem, TableItem}
use Rattle.rs_catalog_pages.proofs.Counting.{times-cons}
use Rattle.rs_versioned.specs.TheConstants.{LIVING}
use Rattle.rs_file.specs.Contents.{Contents, HoldsAll, LiesTable, SameContents, SameTable, TableContents}
use Rattle.rs_pages.specs.PageMap.{PageMap}
use Rattle.rs_versioned.specs.Events.{Event, kept_events, sees_event}
use Rattle.rs_versioned.specs.Meant.{AreEventsMeant, AreReferentsMeant}
use Rattle.rs_versioned.specs.Records.{is_seen}
use Rattle.rs_versioned.specs.Referents.{ReferentRecord, kept_referents}
use Rattle.rs_versioned.specs.declared.route_span.RouteSpan.{RouteSpan}
use Rattle.rs_versioned.proofs.KeptRecords.{events_are_kept}
use Rattle.rs_versioned.proofs.KeptReferents.{referents_are_kept}
use Rattle.rs_versioned.proofs.Present.{held_level}
use Rattle.rs_versioned.proofs.RunsByVersion.{runs_none}
use Rattle.rs_file_meaning.specs.Changed.{HaveOwnNumbers, SaysTheSame}
use Rattle.rs_file_meaning.specs.Live.{KeepsEvents, KeepsLive, KeepsRecords, SeesTheSame}
use Rattle.rs_file_meaning.specs.Meant.{AreRecordsMeant, IsMeant, IsTableMeant}
use Rattle.rs_file_meaning.specs.Seen.{events_of, events_with, routes_at, seen_event, seen_events, seen_referent, seen_referents, span_of_route}
use Rattle.rs_file_meaning.proofs.Lists.{zip_among, zip_each, zip_held, zip_then}
use Rattle.rs_file_meaning.proofs.Named.{first_there, later_there}
use Rattle.rs_file_meaning.proofs.Next.{born_later, filter_alike}
use Rattle.rs_file_meaning.proofs.Picked.{born_all, first_too, same_numbered, table_of}
use Rattle.rs_file_meaning.proofs.SameWorld.{events_meant, referents_meant}
use Rattle.rs_file_meaning.proofs.SeenRecords.{events_alike, referents_alike}

pub fewer : (oldest from : ℕ) (contents : Contents) → oldest ≤ from → IsMeant oldest contents → IsMeant from contents
fewer oldest from contents later is = record { definitions = is.definitions; records = λ version low high. is.records version (omega (arith, later, low)) high }

-- ---- the same definitions

-- tables that one version sees as another saw those before
module _ (from to : ℕ) (routes : List RouteItem) (born : routes_at to routes ≡ routes_at from routes) where
  table_alike : (item : TableItem) (was is : TableContents) → IsTableMeant routes from item was → IsPermutation (seen_events to is.events) (seen_events from was.events) → IsTableMeant routes to item is
  table_alike item was is meant same =
      subst (λ (spans : List RouteSpan). AreEventsMeant spans (kind_of item.kind) to is.events) (sym born)
      (events_alike (routes_at from routes) (kind_of item.kind) from to was.events is.events same meant)

  marks_meant : (was is : List ReferentRecord) → AreReferentsMeant (routes_at from routes) from was → IsPermutation (seen_referents to is) (seen_referents from was) → AreReferentsMeant (routes_at to routes) to is
  marks_meant was is meant same =
      subst (λ (spans : List RouteSpan). AreReferentsMeant spans to is) (sym born) (referents_alike (routes_at from routes) from to was is same meant)

records_kept : (version : ℕ) (old now : Contents) → now.definitions ≡ old.definitions → AllZip (λ was is. IsPermutation (seen_events version is.events) (seen_events version was.events)) old.tables now.tables
    → IsPermutation (seen_referents version now.referents.referents) (seen_referents version old.referents.referents) → AreRecordsMeant version old → AreRecordsMeant version now
records_kept version old now definitions tables referents meant =
    let routes = old.definitions.routes in record {
      tables = subst (λ (d : CatalogueItems). AllZip (IsTableMeant d.routes version) d.tables now.tables) (sym definitions)
          (zip_then (IsTableMeant routes version) (λ was is. IsPermutation (seen_events version is.events) (seen_events version was.events)) (IsTableMeant routes version) old.definitions.tables old.tables now.tables
          meant.tables tables (table_alike version version routes refl));
      referents = subst (λ (d : CatalogueItems). AreReferentsMeant (routes_at version d.routes) version now.referents.referents) (sym definitions)
          (marks_meant version version routes refl old.referents.referents now.referents.referents meant.referents referents);
    }

pub meant_with_records : (oldest : ℕ) (old now : Contents) → IsMeant oldest old → KeepsRecords oldest old now → now.directory.accepted ≡ old.directory.accepted → IsMeant oldest now
meant_with_records oldest old now meant keeps level = record {
  definitions = subst AreMeant (sym keeps.definitions) meant.definitions;
  records = λ version low high.
      let upto : version ≤ old.directory.accepted = omega (arith, high, level) in
      records_kept version old now keeps.definitions
      (zip_each (λ was is. KeepsEvents oldest old.directory.accepted was.events is.events) (λ was is. IsPermutation (seen_events version is.events) (seen_events version was.events)) old.tables now.tables keeps.tables
      (λ was is kept. kept.each version low upto))
      (keeps.referents.each version low upto) (meant.records version low upto);
}

pub same_meant : (oldest : ℕ) (one other : Contents) → SaysTheSame one other → IsMeant oldest one → IsMeant oldest other
same_meant oldest one other same meant = record {
  definitions = subst AreMeant same.definitions meant.definitions;
  records = λ version low high.
      records_kept version one other (sym same.definitions)
      (zip_each (λ was is. was.events ≡ is.events) (λ was is. IsPermutation (seen_events version is.events) (seen_events version was.events)) one.tables other.tables same.tables
      (λ was is level. subst (λ (events : List Event). IsPermutation (seen_events version events) (seen_events version was.events)) level (IsPermutation-refl (seen_events version was.events))))
      (subst (λ (referents : List ReferentRecord). IsPermutation (seen_referents version referents) (seen_referents version one.referents.referents)) same.referents
      (IsPermutation-refl (seen_referents version one.referents.referents)))
      (meant.records version low (omega (arith, high, same.accepted)));
}

pub says_same : (one other : Contents) → SameContents one other → SaysTheSame one other
says_same one other same = record {
  definitions = same.definitions;
  tables = zip_each SameTable (λ table level. table.events ≡ level.events) one.tables other.tables same.tables (λ table level is. is.events);
  referents = same.referents;
  accepted = ap (λ d. d.accepted) same.directory;
}

-- ---- the next version

module _ (pages : PageMap) (contents : Contents) (oldest version : ℕ) (holds : HoldsAll pages contents) (meant : IsMeant oldest contents) (live : oldest ≤ contents.directory.accepted)
    (later : contents.directory.accepted ≤ version) (below : version < LIVING) where
  abbrev accepted : ℕ
  accepted = contents.directory.accepted

  abbrev routes : List RouteItem
  routes = contents.definitions.routes

  -- later versions see the same routes
  born_same : (at : ℕ) → accepted ≤ at → routes_at at routes ≡ routes_at accepted routes
  born_same at past = ap (map span_of_route) (born_all at routes (born_later accepted at past routes holds.routes) ∙ sym (born_all accepted routes holds.routes))

  events_next : (at : ℕ) → accepted ≤ at → at ≤ version → (table : TableContents) → LiesTable pages accepted table → IsPermutation (seen_events at table.events) (seen_events accepted table.events)
  events_next at past upto table lies =
      let level = held_level (kept_events table.types) (events_are_kept table.types) pages table.standing accepted at table.events table.used lies.records past (omega (arith, upto, below)) in
      subst (λ (events : List Event). IsPermutation (map seen_event events) (seen_events accepted table.events)) (sym (filter_alike (sees_event at) (sees_event accepted) table.events level))
      (IsPermutation-refl (seen_events accepted table.events))

  referents_next : (at : ℕ) → accepted ≤ at → at ≤ version → IsPermutation (seen_referents at contents.referents.referents) (seen_referents accepted contents.referents.referents)
  referents_next at past upto =
      let all = contents.referents.referents in
      let level = held_level kept_referents referents_are_kept pages contents.referents.standing accepted at all contents.referents.used holds.parts.referents past (omega (arith, upto, below)) in
      subst (λ (referents : List ReferentRecord). IsPermutation (map seen_referent referents) (seen_referents accepted all)) (sym (filter_alike (is_seen kept_referents at) (is_seen kept_referents accepted) all level))
      (IsPermutation-refl (seen_referents accepted all))

  records_next : (at : ℕ) → accepted ≤ at → at ≤ version → AreRecordsMeant at contents
  records_next at past upto =
      let is = meant.records accepted live (omega arith) in record {
        tables = zip_held (IsTableMeant routes accepted) (IsTableMeant routes at) (LiesTable pages accepted) contents.definitions.tables contents.tables is.tables holds.parts.tables
            (λ item table one lies. table_alike accepted at routes (born_same at past) item table table one (events_next at past upto table lies));
        referents = marks_meant accepted at routes (born_same at past) contents.referents.referents contents.referents.referents is.referents (referents_next at past upto);
      }

  pub meant_next : IsMeant oldest (record contents { directory = record contents.directory { accepted = version } })
  meant_next = record {
    definitions = meant.definitions;
    records = λ at low high.
        let is : AreRecordsMeant at contents = elim (cases_lt accepted at) [
          | inl past ↦ records_next at (omega (arith, past)) high
          | inr upto ↦ meant.records at low upto
        ] in
        record { tables = is.tables; referents = is.referents };
  }

-- ---- other definitions

-- without events a table is meant
pub none_meant : (routes : List RouteSpan) (version : ℕ) (item : TableItem) → AreEventsMeant routes (kind_of item.kind) version []
none_meant routes version item = record { runs = λ route. (runs_none (kind_of item.kind) version version).each version route (omega arith) (omega arith); lie = tt }

abbrev numbers : List TableItem → List ℕ
numbers = map (λ (table : TableItem). table.number)

-- an item has the number, or there are no events under it
numbered_or_none : (items : List TableItem) (number : ℕ) → ((item : TableItem) × Contains items item × (item.number ≡ number)) ⊎ ((tables : List TableContents) → events_with items tables number ≡ [])
numbered_or_none [] number = inr (λ tables. refl)
numbered_or_none (item ∷ items) number =
    elim (item.number == number) as (λ b. (item.number == number) ≡ b → ((one : TableItem) × Contains (item ∷ items) one × (one.number ≡ number))
    ⊎ ((tables : List TableContents) → events_with (item ∷ items) tables number ≡ [])) [
      | true ↦ λ same. inl (item, first_there item items, eqb-true item.number number same)
      | false ↦ λ other. elim (numbered_or_none items number) [
        | inl has ↦ inl (has.0, later_there item has.0 items has.1, has.2)
        | inr none ↦ inr (further other none)
      ]
    ] refl
  where
    further : (item.number == number) ≡ false → ((tables : List TableContents) → events_with items tables number ≡ []) → (tables : List TableContents) → events_with (item ∷ items) tables number ≡ []
    further other none [] = refl
    further other none (t ∷ tables) = ap (λ b. if b then t.events else events_with items tables number) other ∙ none tables

-- each table's events are those under its number
abbrev HasEvents : List TableItem → List TableContents → TableItem → TableContents → Type 0
HasEvents items tables item table = events_with items tables item.number ≡ table.events

events_zipped : (R : TableItem → TableContents → Type 0) (items : List TableItem) (tables : List TableContents) → AllZip R items tables → HaveOwnNumbers items → AllZip (HasEvents items tables) items tables
events_zipped R [] [] all own = tt
events_zipped R [] (t ∷ tables) all own = absurd all
events_zipped R (i ∷ items) [] all own = absurd all
events_zipped R (i ∷ items) (t ∷ tables) all own = (
  elim (i.number == i.number) as (λ b. (i.number == i.number) ≡ b → (if b then t.events else events_with items tables i.number) ≡ t.events) [
    | true ↦ λ same. refl
    | false ↦ λ apart. absurd (eqb-false i.number i.number apart refl)
  ] refl,
  zip_among (HasEvents items tables) (HasEvents (i ∷ items) (t ∷ tables)) items tables
      (events_zipped R items tables all.1 (λ n. omega (arith, own n, times-cons i.number (numbers items) n)))
      (λ item table there has.
      elim (i.number == item.number) as (λ b. (i.number == item.number) ≡ b → (if b then t.events else events_with items tables item.number) ≡ table.events) [
        | true ↦ λ same. absurd (first_too (λ (table : TableItem). table.number) i item items there.0 there.1 there.2 (eqb-true i.number item.number same) (own item.number))
        | false ↦ λ apart. has
      ] refl),
)

nothing : (tables : List TableContents) → AllByRecursion (λ table. Unit {0}) tables
nothing [] = tt
nothing (t ∷ tables) = (tt, nothing tables)

module _ (version : ℕ) (old now : Contents) (sees : SeesTheSame version old now) (given : HaveOwnNumbers old.definitions.tables) (gives : HaveOwnNumbers now.definitions.tables)
    (lists : AllZip (λ (item : TableItem) (table : TableContents). Unit {0}) now.definitions.tables now.tables) (meant : AreRecordsMeant version old) where
  abbrev Meant : TableItem → List Event → Type 0
  Meant item events = AreEventsMeant (routes_at version old.definitions.routes) (kind_of item.kind) version events

  abbrev MeantThen : TableItem → TableContents → Type 0
  MeantThen item table = Meant item table.events

  -- what was under the number of a table that is there
  events_then : (item : TableItem) → Contains now.definitions.tables item → Meant item (events_of old item.number)
  events_then item inside =
      elim (numbered_or_none old.definitions.tables item.number) [
        | inl (one, there, number) ↦
            let has = table_of MeantThen MeantThen (λ table. Unit {0}) one old.definitions.tables old.tables there meant.tables meant.tables (nothing old.tables) (given one.number) in
            let same = same_numbered (λ (table : TableItem). table.number) now.definitions.tables one item (sees.tables one there) inside number (gives one.number) in
            subst (λ (t : TableItem). Meant t (events_of old t.number)) same (subst (Meant one) (sym has.events) has.one)
        | inr none ↦ subst (Meant item) (sym (none old.tables)) (none_meant (routes_at version old.definitions.routes) version item)
      ]

  pub records_seen : AreRecordsMeant version now
  records_seen = record {
    tables = zip_among (HasEvents now.definitions.tables now.tables) (IsTableMeant now.definitions.routes version) now.definitions.tables now.tables
        (events_zipped (λ item table. Unit {0}) now.definitions.tables now.tables lists gives)
        (λ item table inside is. subst (λ (events : List Event). AreEventsMeant (routes_at version now.definitions.routes) (kind_of item.kind) version events) is
        (events_meant version old now sees (kind_of item.kind) item.number (events_then item inside)));
    referents = referents_meant version old now sees meant.referents;
  }

pub meant_after : (oldest : ℕ) (old now : Contents) → IsMeant oldest old → KeepsLive oldest old now → IsMeant now.directory.accepted now
    → now.directory.accepted ≤ old.directory.accepted + 1 → HaveOwnNumbers old.definitions.tables → HaveOwnNumbers now.definitions.tables → IsMeant oldest now
meant_after oldest old now meant keeps means next given gives =
    let present = means.records now.directory.accepted (omega arith) (omega arith) in
    let lists = zip_each (IsTableMeant now.definitions.routes now.directory.accepted) (λ (item : TableItem) (table : TableContents). Unit {0}) now.definitions.tables now.tables present.tables (λ item table is. tt) in
    record {
      definitions = means.definitions;
      records = λ version low high. elim (cases_lt version now.directory.accepted) [
        | inl before ↦
            let upto : version ≤ old.directory.accepted = omega (arith, before, next) in
            records_seen version old now (keeps.each version low upto) given gives lists (meant.records version low upto)
        | inr from ↦ means.records version from high
      ];
    }
