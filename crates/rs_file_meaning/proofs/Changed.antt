-- What stays meant, and what is seen, where one part of a file's contents changes.
use Rattle.std.proofs.Common.{◌≡◌, ◌≢◌, ◌≤◌, ◌==◌, ◌⊎◌, ◌∙◌, inl, inr, ℕ, true, false, List, [], ◌∷◌, ◌++◌, length, map, filter, refl, sym, ap, subst, arith}
use Rattle.std.specs.Prelude.{Contains, if◌then◌else◌}
use Rattle.std.specs.List.{AllByRecursion, AllZip}
use Rattle.std.proofs.lemmas.Bool.{eqb-false, eqb-true}
use Rattle.std.proofs.lemmas.List.Elements.{All-contains_itself, recursion_from_All}
use Rattle.std.proofs.lemmas.List.{get_or_at, length-append}
use Rattle.rs_catalog_meaning.specs.Meaning.{AreMeant}
use Rattle.rs_catalog_meaning.specs.Stating.{kind_of}
use Rattle.rs_catalog_pages.specs.Directory.{DirectoryItems}
use Rattle.rs_catalog_pages.specs.Items.{CatalogueItems, RouteItem, TableItem}
use Rattle.rs_catalog_pages.proofs.Counting.{times-cons}
use Rattle.rs_file.specs.Contents.{Contents, ReferentContents, TableContents}
use Rattle.rs_page_owners.specs.Counts.{times}
use Rattle.rs_versioned.specs.Events.{Event, sees_event, span_of}
use Rattle.rs_versioned.specs.Meant.{AreEventsMeant, AreReferentsMeant, HasRoute, IsPlaceOf, IsReferentMeant, IsSpanOf}
use Rattle.rs_versioned.specs.Records.{is_seen}
use Rattle.rs_versioned.specs.Runs.{AreRunsFrom}
use Rattle.rs_versioned.specs.Referents.{kept_referents}
use Rattle.rs_versioned.specs.declared.route_span.RouteSpan.{RouteSpan}
use Rattle.rs_file_meaning.specs.Changed.{HasTableBetween, HaveOwnNumbers, IsUnusedFrom, TableComes, with_table}
use Rattle.rs_file_meaning.specs.Meant.{IsMeant, IsTableMeant}
use Rattle.rs_file_meaning.specs.Seen.{born_by, events_of, events_with, is_born, routes_at, span_of_route}
use Rattle.rs_file_meaning.proofs.KeptMeaning.{none_meant}
use Rattle.rs_file_meaning.proofs.Lists.{each_among, each_at, zip_at, zip_held, zip_less, zip_more, zip_put}
use Rattle.rs_file_meaning.proofs.Picked.{first_too, kept_in, kept_passes, kept_there, shown_there, source_of}

-- ---- one table

module _ (oldest : ℕ) (contents : Contents) (item : TableItem) (before : List TableContents) (table : TableContents) (after : List TableContents) (has : HasTableBetween contents item before table after)
    (meant : IsMeant oldest contents) where
  abbrev Meant : ℕ → TableItem → TableContents → Type 0
  Meant version = IsTableMeant contents.definitions.routes version

  all_meant : (version : ℕ) → oldest ≤ version → version ≤ contents.directory.accepted → AllZip (Meant version) (has.first ++ item ∷ has.last) (before ++ table ∷ after)
  all_meant version low high =
      subst (λ (ts : List TableContents). AllZip (Meant version) (has.first ++ item ∷ has.last) ts) has.tables
      (subst (λ (is : List TableItem). AllZip (Meant version) is contents.tables) has.items (meant.records version low high).tables)

  pub table_meant : (version : ℕ) → oldest ≤ version → version ≤ contents.directory.accepted → Meant version item table
  table_meant version low high = zip_at (Meant version) has.first item has.last before table after has.long (all_meant version low high)

  pub table_runs : AreRunsFrom (kind_of item.kind) oldest contents.directory.accepted table.events
  table_runs = record { each = λ version route low high. (table_meant version low high).runs route }

  pub meant_put : (now : TableContents) → ((version : ℕ) → oldest ≤ version → version ≤ contents.directory.accepted → Meant version item now) → IsMeant oldest (with_table contents before now after)
  meant_put now is = record {
    definitions = meant.definitions;
    records = λ version low high. record {
      tables = subst (λ (is : List TableItem). AllZip (Meant version) is (before ++ now ∷ after)) (sym has.items)
          (zip_put (Meant version) has.first item has.last before table now after has.long (all_meant version low high) (is version low high));
      referents = (meant.records version low high).referents;
    };
  }

pub still_between : (contents : Contents) (item : TableItem) (before : List TableContents) (table now : TableContents) (after : List TableContents) (directory : DirectoryItems)
    → HasTableBetween contents item before table after → HasTableBetween (record (with_table contents before now after) { directory = directory }) item before now after
still_between contents item before table now after directory has = record { first = has.first; last = has.last; items = has.items; long = has.long; tables = refl }

abbrev number_of : TableItem → ℕ
number_of table = table.number

-- the events under its number are the table's
own_events : (first : List TableItem) (item : TableItem) (last : List TableItem) (before after : List TableContents) (table : TableContents) → length first ≡ length before
    → times (map number_of (first ++ item ∷ last)) item.number ≤ 1 → events_with (first ++ item ∷ last) (before ++ table ∷ after) item.number ≡ table.events
own_events [] item last [] after table long once =
    elim (item.number == item.number) as (λ b. (item.number == item.number) ≡ b → (if b then table.events else events_with last after item.number) ≡ table.events) [
      | true ↦ λ same. refl
      | false ↦ λ apart. absurd (eqb-false item.number item.number apart refl)
    ] refl
own_events [] item last (b ∷ before) after table long once = absurd (omega (arith, long))
own_events (f ∷ first) item last [] after table long once = absurd (omega (arith, long))
own_events (f ∷ first) item last (b ∷ before) after table long once =
    elim (f.number == item.number) as (λ t. (f.number == item.number) ≡ t → (if t then b.events else events_with (first ++ item ∷ last) (before ++ table ∷ after) item.number) ≡ table.events) [
      | true ↦ λ same. absurd (first_too number_of f item (first ++ item ∷ last) (length first) (omega (arith, length-append first (item ∷ last))) (get_or_at first item last item (length first) refl)
          (eqb-true f.number item.number same) once)
      | false ↦ λ apart. own_events first item last before after table (omega (arith, long)) (omega (arith, once, times-cons f.number (map number_of (first ++ item ∷ last)) item.number))
    ] refl

-- and under other numbers they are as they were
other_events : (number : ℕ) (first : List TableItem) (item : TableItem) (last : List TableItem) (before after : List TableContents) (table now : TableContents) → length first ≡ length before
    → (number ≡ item.number → ⊥) → events_with (first ++ item ∷ last) (before ++ now ∷ after) number ≡ events_with (first ++ item ∷ last) (before ++ table ∷ after) number
other_events number [] item last [] after table now long apart =
    elim (item.number == number) as (λ b. (item.number == number) ≡ b → (if b then now.events else events_with last after number) ≡ (if b then table.events else events_with last after number)) [
      | true ↦ λ same. absurd (apart (sym (eqb-true item.number number same)))
      | false ↦ λ other. refl
    ] refl
other_events number [] item last (b ∷ before) after table now long apart = absurd (omega (arith, long))
other_events number (f ∷ first) item last [] after table now long apart = absurd (omega (arith, long))
other_events number (f ∷ first) item last (b ∷ before) after table now long apart =
    ap (λ (events : List Event). if f.number == number then b.events else events) (other_events number first item last before after table now (omega (arith, long)) apart)

module _ (contents : Contents) (item : TableItem) (before : List TableContents) (table : TableContents) (after : List TableContents) (has : HasTableBetween contents item before table after) where
  events_by : (ts : List TableContents) (number : ℕ) → events_with contents.definitions.tables ts number ≡ events_with (has.first ++ item ∷ has.last) ts number
  events_by ts number = ap (λ (is : List TableItem). events_with is ts number) has.items

  once_by : HaveOwnNumbers contents.definitions.tables → times (map number_of (has.first ++ item ∷ has.last)) item.number ≤ 1
  once_by once = subst (λ (is : List TableItem). times (map number_of is) item.number ≤ 1) has.items (once item.number)

  pub seen_put : (now : TableContents) → HaveOwnNumbers contents.definitions.tables → events_of (with_table contents before now after) item.number ≡ now.events
  seen_put now once = events_by (before ++ now ∷ after) item.number ∙ own_events has.first item has.last before after now has.long (once_by once)

  pub seen_there : HaveOwnNumbers contents.definitions.tables → events_of contents item.number ≡ table.events
  seen_there once =
      ap (λ (ts : List TableContents). events_with contents.definitions.tables ts item.number) has.tables ∙ seen_put table once

  pub seen_others : (now : TableContents) (number : ℕ) → (number ≡ item.number → ⊥) → events_of (with_table contents before now after) number ≡ events_of contents number
  seen_others now number apart =
      events_by (before ++ now ∷ after) number
      ∙ other_events number has.first item has.last before after table now has.long apart
      ∙ sym (events_by (before ++ table ∷ after) number)
      ∙ ap (λ (ts : List TableContents). events_with contents.definitions.tables ts number) (sym has.tables)

-- ---- the referents

pub meant_referents : (oldest : ℕ) (contents : Contents) (now : ReferentContents) → IsMeant oldest contents
    → ((version : ℕ) → oldest ≤ version → version ≤ contents.directory.accepted → AreReferentsMeant (routes_at version contents.definitions.routes) version now.referents)
    → IsMeant oldest (record contents { referents = now })
meant_referents oldest contents now meant each = record {
  definitions = meant.definitions;
  records = λ version low high. record { tables = (meant.records version low high).tables; referents = each version low high };
}

-- ---- routes

-- each route is there still, or no version that is looked at sees a record on it
module _ (oldest : ℕ) (contents : Contents) (definitions : CatalogueItems) (stay : (route : RouteItem) → Contains contents.definitions.routes route
    → Contains definitions.routes route ⊎ IsUnusedFrom oldest route.number contents) (version : ℕ) (low : oldest ≤ version) (high : version ≤ contents.directory.accepted) where
  abbrev old : List RouteSpan
  old = routes_at version contents.definitions.routes

  abbrev now : List RouteSpan
  now = routes_at version definitions.routes

  -- where a route that isn't unused had the number
  on_used : (number : ℕ) (IsSo : RouteSpan → Type 0) → (IsUnusedFrom oldest number contents → ⊥) → HasRoute old number IsSo → HasRoute now number IsSo
  on_used number IsSo used on =
      let from = source_of span_of_route (born_by version contents.definitions.routes) on.route on.there in
      elim (stay from.source (kept_there (is_born version) contents.definitions.routes from.source from.there)) [
        | inl there ↦ record {
          route = on.route;
          there = subst (Contains now) from.is
              (shown_there span_of_route (born_by version definitions.routes) from.source
              (kept_in (is_born version) definitions.routes from.source there (kept_passes (is_born version) contents.definitions.routes from.source from.there)));
          numbered = on.numbered;
          is_so = on.is_so;
        }
        | inr unused ↦ absurd (used (subst (λ (n : ℕ). IsUnusedFrom oldest n contents) (ap (λ (span : RouteSpan). span.number) from.is ∙ on.numbered) unused))
      ]

  table_stays : (item : TableItem) (table : TableContents) → Contains contents.tables table → IsTableMeant contents.definitions.routes version item table → IsTableMeant definitions.routes version item table
  table_stays item table among is = record {
    runs = is.runs;
    lie = each_among (λ event. HasRoute old event.route (IsSpanOf (kind_of item.kind) (span_of event))) (λ event. HasRoute now event.route (IsSpanOf (kind_of item.kind) (span_of event)))
        (filter (sees_event version) table.events) is.lie
        (λ event there. on_used event.route (IsSpanOf (kind_of item.kind) (span_of event)) (λ unused.
        each_at (λ other. other.route ≢ event.route) (filter (sees_event version) table.events) event
        (each_at (λ (table : TableContents). AllByRecursion (λ other. other.route ≢ event.route) (filter (sees_event version) table.events)) contents.tables table (unused.events version low high) among) there refl));
  }

  referents_stay : AreReferentsMeant old version contents.referents.referents → AreReferentsMeant now version contents.referents.referents
  referents_stay is = record {
    each = each_among (IsReferentMeant old) (IsReferentMeant now) (filter (is_seen kept_referents version) contents.referents.referents) is.each (λ referent there one. record {
      named = one.named;
      not_start = one.not_start;
      lies = on_used referent.route (IsPlaceOf referent.measure)
          (λ unused. each_at (λ other. other.route ≢ referent.route) (filter (is_seen kept_referents version) contents.referents.referents) referent (unused.referents version low high) there refl) one.lies;
    });
    once = is.once;
    few = is.few;
  }

pub meant_with_routes : (oldest : ℕ) (contents : Contents) (definitions : CatalogueItems) → IsMeant oldest contents → AreMeant definitions → definitions.tables ≡ contents.definitions.tables
    → ((route : RouteItem) → Contains contents.definitions.routes route → Contains definitions.routes route ⊎ IsUnusedFrom oldest route.number contents)
    → IsMeant oldest (record contents { definitions = definitions })
meant_with_routes oldest contents definitions meant means tables stay = record {
  definitions = means;
  records = λ version low high. let is = meant.records version low high in record {
    tables = subst (λ (items : List TableItem). AllZip (IsTableMeant definitions.routes version) items contents.tables) (sym tables)
        (zip_held (IsTableMeant contents.definitions.routes version) (IsTableMeant definitions.routes version) (Contains contents.tables) contents.definitions.tables contents.tables is.tables
        (recursion_from_All (Contains contents.tables) contents.tables (All-contains_itself contents.tables))
        (λ item table one among. table_stays oldest contents definitions stay version low high item table among one));
    referents = referents_stay oldest contents definitions stay version low high is.referents;
  };
}

-- ---- tables

-- other tables beside the same routes, where what is so of those that were there is so of those that are
meant_tables : (oldest : ℕ) (contents : Contents) (definitions : CatalogueItems) (tables : List TableContents) → IsMeant oldest contents → AreMeant definitions → definitions.routes ≡ contents.definitions.routes
    → ((version : ℕ) → AllZip (IsTableMeant contents.definitions.routes version) contents.definitions.tables contents.tables → AllZip (IsTableMeant contents.definitions.routes version) definitions.tables tables)
    → IsMeant oldest (record contents { definitions = definitions; tables = tables })
meant_tables oldest contents definitions tables meant means routes each = record {
  definitions = means;
  records = λ version low high. let is = meant.records version low high in record {
    tables = subst (λ (rs : List RouteItem). AllZip (IsTableMeant rs version) definitions.tables tables) (sym routes) (each version is.tables);
    referents = subst (λ (rs : List RouteItem). AreReferentsMeant (routes_at version rs) version contents.referents.referents) (sym routes) is.referents;
  };
}

pub meant_with_table : (oldest : ℕ) (contents : Contents) (definitions : CatalogueItems) (before : List TableContents) (table : TableContents) (after : List TableContents)
    → IsMeant oldest contents → AreMeant definitions → definitions.routes ≡ contents.definitions.routes → TableComes contents definitions before table after
    → IsMeant oldest (record contents { definitions = definitions; tables = before ++ table ∷ after })
meant_with_table oldest contents definitions before table after meant means routes comes =
    meant_tables oldest contents definitions (before ++ table ∷ after) meant means routes (λ version were.
    let Meant = IsTableMeant contents.definitions.routes version in
    let all = subst (λ (ts : List TableContents). AllZip Meant (comes.first ++ comes.last) ts) comes.tables (subst (λ (is : List TableItem). AllZip Meant is contents.tables) comes.were were) in
    subst (λ (is : List TableItem). AllZip Meant is (before ++ table ∷ after)) (sym comes.are)
    (zip_more Meant comes.first comes.item comes.last before table after comes.long all
    (subst (λ (events : List Event). AreEventsMeant (routes_at version contents.definitions.routes) (kind_of comes.item.kind) version events) (sym comes.no_events)
    (none_meant (routes_at version contents.definitions.routes) version comes.item))))

pub meant_without_table : (oldest : ℕ) (contents : Contents) (definitions : CatalogueItems) (item : TableItem) (before : List TableContents) (table : TableContents) (after : List TableContents)
    → IsMeant oldest contents → AreMeant definitions → definitions.routes ≡ contents.definitions.routes → (has : HasTableBetween contents item before table after) → definitions.tables ≡ has.first ++ has.last
    → IsMeant oldest (record contents { definitions = definitions; tables = before ++ after })
meant_without_table oldest contents definitions item before table after meant means routes has tables =
    meant_tables oldest contents definitions (before ++ after) meant means routes (λ version were.
    let Meant = IsTableMeant contents.definitions.routes version in
    let all = subst (λ (ts : List TableContents). AllZip Meant (has.first ++ item ∷ has.last) ts) has.tables (subst (λ (is : List TableItem). AllZip Meant is contents.tables) has.items were) in
    subst (λ (is : List TableItem). AllZip Meant is (before ++ after)) (sym tables) (zip_less Meant has.first item has.last before table after has.long all))
