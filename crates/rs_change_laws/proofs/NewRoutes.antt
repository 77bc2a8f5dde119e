-- A route of a free number has neither facts nor referents.
use Rattle.std.proofs.Common.{◌≡◌, ◌&&◌, ◌==◌, ◌∙◌, ℕ, Bool, true, false, cond, List, [], ◌∷◌, map, filter, refl, ap}
use Rattle.std.specs.Prelude.{if◌then◌else◌}
use Rattle.std.specs.FinMap as names
use Rattle.std.specs.List.{AllByRecursion, AllZip}
use Rattle.std.proofs.lemmas.Bool.{ne_eqb}
use Rattle.rs_catalog.specs.Definitions as catalog
use Rattle.rs_catalog.specs.Definitions.{IsFree, no_places}
use Rattle.rs_catalog_meaning.specs.Meaning.{AreMeant}
use Rattle.rs_catalog_meaning.specs.Stating.{kind_of}
use Rattle.rs_catalog_pages.specs.Items.{RouteItem, TableItem}
use Rattle.rs_facts.specs.Spans.{places_of}
use Rattle.rs_file_parts.specs.Contents.{Contents, TableContents}
use Rattle.rs_versioned.specs.Events.{Event, sees_event, span_of, spans_at}
use Rattle.rs_versioned.specs.Meant.{HasRoute, IsPlaceOf, IsReferentMeant, IsSpanOf}
use Rattle.rs_versioned.specs.Records.{is_seen}
use Rattle.rs_versioned.specs.Referents.{ReferentRecord, kept_referents}
use Rattle.rs_versioned.specs.declared.route_span.RouteSpan.{RouteSpan}
use Rattle.rs_file_meaning.specs.Meant.{AreRecordsMeant, IsTableMeant}
use Rattle.rs_file_meaning.specs.Seen.{born_by, events_with, is_born, referents_seen, routes_at, span_of_route, spans_seen}
use Rattle.rs_file_meaning.specs.States.{named_route, routes_named}
use Rattle.rs_file_meaning.proofs.Named.{get_there}
use Rattle.rs_file_meaning.proofs.Picked.{kept_there, source_of}

-- what is seen is none of those that pass a test
none_pass : {X : Type 0} (on seen : X → Bool) (xs : List X) → AllByRecursion (λ x. on x ≡ false) (filter seen xs) → filter (λ x. on x && seen x) xs ≡ []
none_pass on seen [] all = refl
none_pass {X} on seen (x ∷ xs) all = by_seen (seen x) (none_pass on seen xs) all where
  left : List X
  left = filter (λ y. on y && seen y) xs

  Fails : List X → Type 0
  Fails ys = AllByRecursion (λ y. on y ≡ false) ys

  by_on : (t : Bool) → left ≡ [] → cond (t && false) (x ∷ left) left ≡ []
  by_on true none = none
  by_on false none = none

  by_seen : (s : Bool) → (Fails (filter seen xs) → left ≡ []) → Fails (cond s (x ∷ filter seen xs) (filter seen xs)) → cond (on x && s) (x ∷ left) left ≡ []
  by_seen true rest all = ap (λ t. cond (t && true) (x ∷ left) left) all.0 ∙ rest all.1
  by_seen false rest all = by_on (on x) (rest all)

each_gives : {X : Type 0} (P Q : X → Type 0) → ((x : X) → P x → Q x) → (xs : List X) → AllByRecursion P xs → AllByRecursion Q xs
each_gives P Q gives [] all = tt
each_gives P Q gives (x ∷ xs) all = (gives x all.0, each_gives P Q gives xs all.1)

module _ (contents : Contents) (version number : ℕ) (meant : AreMeant contents.definitions) (records : AreRecordsMeant version contents)
    (free : IsFree (λ (route : catalog.RouteItem). route.number) (routes_named contents.definitions.routes) number) where
  abbrev routes : List RouteSpan
  routes = routes_at version contents.definitions.routes

  -- no route has the number
  no_route : (IsSo : RouteSpan → Type 0) (other : ℕ) → HasRoute routes other IsSo → (other == number) ≡ false
  no_route IsSo other on = ne_eqb other number (λ same.
      let from = source_of span_of_route (born_by version contents.definitions.routes) on.route on.there in
      let there = kept_there (is_born version) contents.definitions.routes from.source from.there in
      free from.source.name (named_route from.source).1
      (get_there (λ (route : RouteItem). route.name) (λ route. (named_route route).1) contents.definitions.routes from.source meant.routes.in_order there)
      (ap (λ (span : RouteSpan). span.number) from.is ∙ on.numbered ∙ same))

  spans_free : (items : List TableItem) (tables : List TableContents) → AllZip (IsTableMeant contents.definitions.routes version) items tables → (table : ℕ)
      → spans_at version number (events_with items tables table) ≡ []
  spans_free [] tables all table = refl
  spans_free (i ∷ items) [] all table = absurd all
  spans_free (i ∷ items) (t ∷ tables) all table =
      elim (i.number == table) as (λ b. spans_at version number (if b then t.events else events_with items tables table) ≡ []) [
        | true ↦ ap (map span_of) (none_pass (λ (event : Event). event.route == number) (sees_event version) t.events
            (each_gives (λ (event : Event). HasRoute routes event.route (IsSpanOf (kind_of i.kind) (span_of event))) (λ event. (event.route == number) ≡ false)
            (λ event on. no_route (IsSpanOf (kind_of i.kind) (span_of event)) event.route on) (filter (sees_event version) t.events) all.0.lie))
        | false ↦ spans_free items tables all.1 table
      ]

  pub no_facts : (table : ℕ) → places_of (spans_seen contents version table number) ≡ no_places
  no_facts table = ap places_of (spans_free contents.definitions.tables contents.tables records.tables table)

  pub no_referents : referents_seen contents version number ≡ names.empty
  no_referents =
      ap (λ (referents : List ReferentRecord). names.from_entries (map (λ one. (one.name, one.measure)) referents))
      (none_pass (λ (one : ReferentRecord). one.route == number) (is_seen kept_referents version) contents.referents.referents
      (each_gives (IsReferentMeant routes) (λ one. (one.route == number) ≡ false) (λ one is. no_route (IsPlaceOf one.measure) one.route is.lies)
      (filter (is_seen kept_referents version) contents.referents.referents) records.referents.each))
