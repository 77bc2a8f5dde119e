-- A route that goes with its referents: the state that a file has then.
use Rattle.std.proofs.Common.{◌≡◌, ◌≢◌, ◌<◌, ◌≤◌, ◌+◌, ◌&&◌, ◌==◌, ◌⊎◌, ◌∙◌, inl, inr, ℕ, Bool, true, false, cond, List, [], ◌∷◌, length, map, filter, refl, sym, ap, subst, arith}
use Rattle.std.specs.Prelude.{Contains, if◌then◌else◌}
use Rattle.std.specs.FinMap as names
use Rattle.std.specs.List.{AllByRecursion, AllZip}
use Rattle.std.proofs.lemmas.Bool.{eqb-false, eqb-true}
use Rattle.std.proofs.lemmas.List.Sorted.{IsPermutation-refl}
use Rattle.rs_catalog.specs.Changes.{without_route}
use Rattle.rs_catalog.specs.Definitions as catalog
use Rattle.rs_catalog.specs.Definitions.{AreDefinitions, Definitions, Numbered, state_from}
use Rattle.rs_catalog.specs.Referents.{HeldReferents, at_number, referents_on}
use Rattle.rs_catalog_laws.specs.Rest.{one_more}
use Rattle.rs_catalog_pages.specs.Items.{CatalogueItems, RouteItem, TableItem}
use Rattle.rs_catalog_pages.proofs.Counting.{times-cons}
use Rattle.rs_cell_versions.specs.declared.cell.TheConstants.{LIVING}
use Rattle.rs_facts.specs.Fact.{Name, Names}
use Rattle.rs_file_parts.specs.Contents.{Contents, IsTable, ReferentContents, TableContents}
use Rattle.rs_file_parts.specs.OpenedFile.{OpenedFile}
use Rattle.rs_machine.specs.Lawful.{AreDistinct, Each, IsLawful}
use Rattle.rs_machine.specs.State.{State, no_cursors}
use Rattle.rs_page_owners.specs.Counts.{one_at, times}
use Rattle.rs_stored_catalog.specs.Listing.{listed_route, listing_of}
use Rattle.rs_stored_catalog.specs.Relisting.{IsPutBetween}
use Rattle.rs_table_changes.proofs.Turning.{AreApart}
use Rattle.rs_page_owners.proofs.Moving.{one_at-same}
use Rattle.rs_pages.specs.PageMap.{PageMap}
use Rattle.rs_syntax.specs.QueryView.{query_tree}
use Rattle.rs_versioned.specs.Events.{Event, is_on, sees_event, span_of, spans_at}
use Rattle.rs_versioned.specs.Meant.{AreReferentsMeant}
use Rattle.rs_versioned.specs.Records.{is_seen}
use Rattle.rs_versioned.specs.Referents.{ReferentRecord, kept_referents, referents_at}
use Rattle.rs_versioned.proofs.KeptReferents.{referents_are_kept}
use Rattle.rs_versioned.proofs.Present.{IsDatedRecord, held_dated}
use Rattle.rs_change_laws.specs.Changing.{GivesState, next_of}
use Rattle.rs_change_laws.specs.Parts.{DropsRoute, EndsAllOn}
use Rattle.rs_change_laws.specs.Standing.{StandsAt}
use Rattle.rs_file_meaning.specs.Changed.{HaveOwnNumbers, IsUnusedFrom}
use Rattle.rs_file_meaning.specs.Live.{SeesTheSame}
use Rattle.rs_file_meaning.specs.Meant.{IsMeant}
use Rattle.rs_file_meaning.specs.Seen.{events_of, events_with, referents_seen, routes_at, seen_events, spans_seen}
use Rattle.rs_file_meaning.specs.States.{HasLine}
use Rattle.rs_change_laws.proofs.NewDefinitions.{Laws, are_born, are_lines, each_removed, gives, listed, means, next_is_meant, put_others, tables_listed}
use Rattle.rs_change_laws.proofs.ReferentTurns.{all_end, held_apart, none_ended, turned}
use Rattle.rs_change_laws.proofs.OffRoute.{IsOver, at_others, at_route, none_on, others, others_meant, sees_others}

-- ---- facts

-- where the version has no spans on the route, it sees no event there
none_seen : (version number : ℕ) (events : List Event) → spans_at version number events ≡ [] → AllByRecursion (λ event. event.route ≢ number) (filter (sees_event version) events)
none_seen version number [] none = tt
none_seen version number (e ∷ es) none = by_seen (sees_event version e) (none_seen version number es) none where
  On : Bool → Bool → Type 0
  On t s = map span_of (cond (t && s) (e ∷ filter (is_on version number) es) (filter (is_on version number) es)) ≡ []

  Apart : List Event → Type 0
  Apart events = AllByRecursion (λ (event : Event). event.route ≢ number) events

  Later : Type 0
  Later = spans_at version number es ≡ [] → Apart (filter (sees_event version) es)

  unseen : (t : Bool) → On t false → spans_at version number es ≡ []
  unseen true none = none
  unseen false none = none

  by_seen : (s : Bool) → Later → On (e.route == number) s → Apart (cond s (e ∷ filter (sees_event version) es) (filter (sees_event version) es))
  by_seen true later none = elim (e.route == number) as (λ t. (e.route == number) ≡ t → On t true → Apart (e ∷ filter (sees_event version) es)) [
    | true ↦ λ same none. absurd (omega (arith, ap length none))
    | false ↦ λ apart none. (eqb-false e.route number apart, later none)
  ] refl none
  by_seen false later none = later (unseen (e.route == number) none)

abbrev pub numbers_of : List TableItem → List ℕ
numbers_of = map (λ (table : TableItem). table.number)

-- where no table has the number, there are no events under it
pub none_with : (items : List TableItem) (tables : List TableContents) (number : ℕ) → times (numbers_of items) number ≤ 0 → events_with items tables number ≡ []
none_with [] tables number none = refl
none_with (i ∷ items) [] number none = refl
none_with (i ∷ items) (t ∷ tables) number none =
    elim (i.number == number) as (λ b. (i.number == number) ≡ b → (if b then t.events else events_with items tables number) ≡ []) [
      | true ↦ λ same. absurd (omega (arith, times-cons i.number (numbers_of items) number, ap (λ n. one_at n number) (eqb-true i.number number same), one_at-same number, none))
      | false ↦ λ apart. none_with items tables number (omega (arith, times-cons i.number (numbers_of items) number, none))
    ] refl

-- what is so of the events under each number is so of each table's
of_each : (Q : List Event → Type 0) → Q [] → (R : TableItem → TableContents → Type 0) (items : List TableItem) (tables : List TableContents) → AllZip R items tables → HaveOwnNumbers items
    → ((number : ℕ) → Q (events_with items tables number)) → AllByRecursion (λ table. Q table.events) tables
of_each Q none R [] [] all own each = tt
of_each Q none R [] (t ∷ tables) all own each = absurd all
of_each Q none R (i ∷ items) [] all own each = absurd all
of_each Q none R (i ∷ items) (t ∷ tables) all own each = (
  elim (i.number == i.number) as (λ b. (i.number == i.number) ≡ b → Q (if b then t.events else events_with items tables i.number) → Q t.events) [
    | true ↦ λ same is. is
    | false ↦ λ apart is. absurd (eqb-false i.number i.number apart refl)
  ] refl (each i.number),
  of_each Q none R items tables all.1 (λ number. omega (arith, own number, times-cons i.number (numbers_of items) number)) (λ number.
      elim (i.number == number) as (λ b. (i.number == number) ≡ b → Q (if b then t.events else events_with items tables number) → Q (events_with items tables number)) [
        | true ↦ λ same is. subst Q (sym (none_with items tables number
            (omega (arith, own number, times-cons i.number (numbers_of items) number, ap (λ n. one_at n number) (eqb-true i.number number same), one_at-same number)))) none
        | false ↦ λ apart is. is
      ] refl (each number)),
)

over_each : (version : ℕ) (referents : List ReferentRecord) → AllByRecursion (IsDatedRecord kept_referents version) referents → AllByRecursion (IsOver (version + 1)) referents
over_each version [] all = tt
over_each version (one ∷ referents) all = (
  elim all.0.1 [
    | inl lives ↦ inl lives
    | inr died ↦ inr (omega (arith, died.1))
  ],
  over_each version referents all.1,
)

-- ---- the route

-- what is said of versions that see the same
pub record SameLaws : Type 0 where
  pub referents : (version : ℕ) (old now : Contents) → SeesTheSame version old now → AreReferentsMeant (routes_at version old.definitions.routes) version old.referents.referents
      → AreReferentsMeant (routes_at version now.definitions.routes) version now.referents.referents
  pub names : (version route : ℕ) (old now : Contents) → SeesTheSame version old now → AreDistinct (map (λ one. one.0) (referents_at version route old.referents.referents))
      → referents_seen now version route ≡ referents_seen old version route

module _ (laws : Laws) (same : SameLaws) (from : ℕ) (pages : PageMap) (file : OpenedFile) (definitions : Definitions) (held kept : Numbered HeldReferents) (state : State)
    (stands : StandsAt from pages file definitions held state) (below : stands.contents.directory.accepted + 1 < LIVING) (number : ℕ)
    (no_spans : (table : ℕ) → spans_seen stands.contents stands.contents.directory.accepted table number ≡ [])
    (kept_are : referents_on kept ≡ at_number number names.empty (referents_on held))
    (referents : ReferentContents) (ends : EndsAllOn (stands.contents.directory.accepted + 1) number stands.contents.referents.referents referents.referents) where
  abbrev old : Contents
  old = stands.contents

  abbrev accepted : ℕ
  accepted = old.directory.accepted

  abbrev next : ℕ
  next = accepted + 1

  over : AllByRecursion (IsOver next) old.referents.referents
  over = over_each accepted old.referents.referents
      (held_dated kept_referents referents_are_kept pages old.referents.standing accepted old.referents.referents old.referents.used stands.holds.parts.referents)

  -- the contents without the referents of the route, and with those that are there afterwards
  abbrev off : Contents
  off = record old { referents = record old.referents { referents = others next number old.referents.referents referents.referents ends over } }

  abbrev pub ended : Contents
  ended = record old { referents = referents }

  sees : SeesTheSame next off ended
  sees = record {
    routes = refl;
    tables = λ item there. there;
    events = λ table. IsPermutation-refl (seen_events next (events_of old table));
    referents = sees_others next number old.referents.referents referents.referents ends over;
  }

  next_meant : IsMeant next (next_of old)
  next_meant = next_is_meant laws from pages file definitions held state stands below

  off_meant : AreReferentsMeant (routes_at next old.definitions.routes) next off.referents.referents
  off_meant = others_meant next number old.referents.referents (routes_at next old.definitions.routes) (next_meant.records next (omega arith) (omega arith)).referents

  pub then_meant : IsMeant next (next_of ended)
  then_meant = record {
    definitions = next_meant.definitions;
    records = λ version low high.
        let is : next ≡ version = omega (arith, low, high) in
        record {
          tables = (next_meant.records version low high).tables;
          referents = subst (λ v. AreReferentsMeant (routes_at v old.definitions.routes) v referents.referents) is (same.referents next off ended sees off_meant);
        };
  }

  events_none : AllByRecursion (λ table. AllByRecursion (λ event. event.route ≢ number) (filter (sees_event next) table.events)) old.tables
  events_none = of_each (λ events. AllByRecursion (λ event. event.route ≢ number) (filter (sees_event next) events)) tt (IsTable old.directory old.definitions.indexes) old.definitions.tables old.tables
      stands.holds.said.tables stands.holds.said.numbered.given.tables_once (λ table. none_seen next number (events_of old table)
      (laws.next_spans pages old next stands.holds (omega arith) below table number ∙ no_spans table))

  pub unused : IsUnusedFrom next number (next_of ended)
  unused = record {
    events = λ version low high.
        let is : next ≡ version = omega (arith, low, high) in
        subst (λ v. AllByRecursion (λ (table : TableContents). AllByRecursion (λ (event : Event). event.route ≢ number) (filter (sees_event v) table.events)) old.tables) is events_none;
    referents = λ version low high.
        let is : next ≡ version = omega (arith, low, high) in
        subst (λ v. AllByRecursion (λ (one : ReferentRecord). one.route ≢ number) (filter (is_seen kept_referents v) referents.referents)) is
        (none_on next number old.referents.referents referents.referents ends over);
  }

  kept_seen : (route : ℕ) → referents_on kept route ≡ referents_seen off next route
  unfolding at_number
  kept_seen route =
      ap (λ (by_number : ℕ → Names ℕ). by_number route) kept_are
      ∙ elim (route == number) as (λ b. (route == number) ≡ b → (if b then names.empty else referents_on held route) ≡ referents_seen off next route) [
        | true ↦ λ is.
            subst (λ n. names.empty ≡ referents_seen off next n) (sym (eqb-true route number is))
            (ap (λ (list : List (Name × ℕ)). names.from_entries list) (sym (at_route next number old.referents.referents)))
        | false ↦ λ apart.
            stands.memory.referents route
            ∙ sym (laws.next_referents pages old next stands.holds (omega arith) below route)
            ∙ ap (λ (list : List (Name × ℕ)). names.from_entries list) (sym (at_others next number old.referents.referents route (eqb-false route number apart)))
      ] refl

  pub memory : (route : ℕ) → referents_on kept route ≡ referents_seen ended next route
  memory route = kept_seen route ∙ sym (same.names next route off ended sees (off_meant.once route))

module _ (laws : Laws) (same : SameLaws) (from oldest : ℕ) (pages : PageMap) (file : OpenedFile) (definitions : Definitions) (held kept : Numbered HeldReferents) (state after : State)
    (stands : StandsAt from pages file definitions held state) (below : stands.contents.directory.accepted + 1 < LIVING) (past : oldest ≡ stands.contents.directory.accepted + 1)
    (name : Name) (item : catalog.RouteItem) (between : Contents) (are : AreDefinitions (without_route definitions name))
    (no_spans : (table : ℕ) → spans_seen stands.contents stands.contents.directory.accepted table item.number ≡ [])
    (kept_are : referents_on kept ≡ at_number item.number names.empty (referents_on held))
    (drops : DropsRoute item.number (listing_of (without_route definitions name)) stands.contents between)
    (put : IsPutBetween (listed_route (name, item)) (listing_of (without_route definitions name)).routes (listing_of definitions).routes)
    (is : after ≡ state_from (without_route definitions name) (referents_on kept) (spans_seen stands.contents stands.contents.directory.accepted)
    (one_more (record { changes = stands.contents.directory.accepted; cursors = no_cursors }))) (lawful : IsLawful after) where
  abbrev was : Contents
  was = stands.contents

  abbrev version : ℕ
  version = was.directory.accepted + 1

  abbrev now : Definitions
  now = without_route definitions name

  abbrev left : ReferentContents
  left = drops.0.referents

  abbrev mid : Contents
  mid = ended laws same from pages file definitions held kept state stands below item.number no_spans kept_are left drops.1.changed

  lines_then : Each now.views (λ name item. HasLine name (query_tree item.query) item.text)
  lines_then = are_lines laws from pages file definitions held state stands below

  born_then : Each now.routes (λ name item. item.born ≤ version)
  born_then = each_removed (λ name item. item.born ≤ version) definitions.routes name (are_born laws from pages file definitions held state stands below)

  whole : between ≡ record was { definitions = listing_of now; pages = between.pages; referents = left }
  whole =
      drops.2.rest
      ∙ ap (λ (c : Contents). record c { definitions = between.definitions; pages = between.pages }) drops.1.rest
      ∙ ap (λ items. record was { definitions = items; pages = between.pages; referents = left }) drops.2.definitions_are

  stay : (route : RouteItem) → Contains was.definitions.routes route → Contains (listing_of now).routes route ⊎ IsUnusedFrom version route.number (next_of mid)
  stay route there =
      elim (put_others (listed_route (name, item)) (listing_of now).routes (listing_of definitions).routes put route
      (subst (λ (items : CatalogueItems). Contains items.routes route) (sym (listed laws from pages file definitions held state stands below)) there)) [
        | inl one ↦ inr (subst (λ (r : RouteItem). IsUnusedFrom version r.number (next_of mid)) one
            (unused laws same from pages file definitions held kept state stands below item.number no_spans kept_are left drops.1.changed))
        | inr other ↦ inl other
      ]

  meant : IsMeant version (record (next_of mid) { definitions = listing_of now })
  meant = laws.routes_meant version (next_of mid) (listing_of now)
      (then_meant laws same from pages file definitions held kept state stands below item.number no_spans kept_are left drops.1.changed)
      (means laws from pages file definitions held state stands below now kept after refl is are lawful lines_then born_then)
      (tables_listed laws from pages file definitions held state stands below now kept after refl is are lawful lines_then born_then)
      stay

  dated_then : AllByRecursion (IsDatedRecord kept_referents was.directory.accepted) was.referents.referents
  dated_then = held_dated kept_referents referents_are_kept pages was.referents.standing was.directory.accepted was.referents.referents was.referents.used stands.holds.parts.referents

  apart_then : AreApart was.referents.referents
  apart_then = held_apart pages was.referents.standing was.directory.accepted was.referents.referents was.referents.used stands.holds.parts.referents

  pub gives_less : GivesState oldest was between now kept after
  gives_less =
      subst (λ contents. GivesState oldest was contents now kept after) (sym whole)
      (gives laws from pages file definitions held state stands below now kept after refl is are lawful lines_then born_then oldest between.pages left
      (turned version was.directory.accepted (omega arith) below was.referents.referents dated_then apart_then left.referents
      (all_end version was.directory.accepted (omega arith) below was.referents.referents dated_then apart_then drops.1.changed.gone was.referents.referents left.referents
      (λ one there. (drops.1.changed.are_on one there).1) drops.1.changed.ended
      (none_ended version was.directory.accepted (omega arith) below was.referents.referents dated_then apart_then)))
      (memory laws same from pages file definitions held kept state stands below item.number no_spans kept_are left drops.1.changed)
      (record { each = λ at low high. absurd (omega (arith, low, high, past)) })
      (record {
        definitions = meant.definitions;
        records = λ at low high. let are = meant.records at low high in record { tables = are.tables; referents = are.referents };
      }))
