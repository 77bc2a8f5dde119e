-- Records that are meant beside routes, in whatever order these are given.
use Rattle.std.proofs.Common.{◌≡◌, ◌≤◌, ◌<◌, ◌+◌, ◌↔◌, ℕ, zero, suc, Bool, true, false, cond, eqb, nat_lt, List, [], ◌∷◌, filter, get_or, length, map, refl, sym, ap, subst, ◌∙◌, inl, inr, arith, add-one}
use Rattle.std.proofs.lemmas.Bool.{cases_lt, false≢true, lt-ltb, ltb-true}
use Rattle.std.proofs.lemmas.List.Sorted.{Contains-permutation, IsNonDecreasingBy-drop, IsPermutation-map, sum_by-IsPermutation}
use Rattle.std.specs.List.{AllByRecursion, AllZip, IsAllAdjacentAnswer}
use Rattle.std.specs.List.Sorted.{IsNonDecreasingBy, IsPermutation}
use Rattle.rs_catalog_pages.specs.Items.{RouteItem, TableItem}
use Rattle.rs_file.specs.Contents.{Contents, TableContents}
use Rattle.rs_file.specs.Meant.{AreRecordsMeantOn, IsTableMeant, span_of_route}
use Rattle.rs_page_owners.specs.Counts.{one_at, times}
use Rattle.rs_catalog_pages.proofs.Counting.{times-cons, times-none}
use Rattle.rs_page_owners.proofs.Moving.{one_at-other, one_at-same}
use Rattle.rs_value.specs.declared.column.Kind.{Kind}
use Rattle.rs_versioned.specs.Events.{Event, sees_event, span_of}
use Rattle.rs_versioned.specs.Meant.{AreEventsMeant, AreReferentsMeant, AreRising, HasRoute, IsPlaceOf, IsReferentMeant, IsSpanOf}
use Rattle.rs_versioned.specs.Records.{is_seen}
use Rattle.rs_versioned.specs.Referents.{ReferentRecord, kept_referents}
use Rattle.rs_versioned.specs.declared.route_span.RouteSpan.{RouteSpan}

-- ---- routes in another order

module _ (one other : List RouteSpan) (same : IsPermutation one other) where
  has_route : (number : ℕ) (IsSo : RouteSpan → Type 0) → HasRoute one number IsSo → HasRoute other number IsSo
  has_route number IsSo has = record {
    route = has.route;
    there = Contains-permutation one other has.route same has.there;
    numbered = has.numbered;
    is_so = has.is_so;
  }

  events_lie : (kind : Kind) (events : List Event) → AllByRecursion (λ event. HasRoute one event.route (IsSpanOf kind (span_of event))) events
      → AllByRecursion (λ event. HasRoute other event.route (IsSpanOf kind (span_of event))) events
  events_lie kind [] all = tt
  events_lie kind (event ∷ events) all = (has_route event.route (IsSpanOf kind (span_of event)) all.0, events_lie kind events all.1)

  pub events_meant : (kind : Kind) (version : ℕ) (events : List Event) → AreEventsMeant one kind version events → AreEventsMeant other kind version events
  events_meant kind version events meant = record { runs = meant.runs; lie = events_lie kind (filter (sees_event version) events) meant.lie }

  each_referent : (referents : List ReferentRecord) → AllByRecursion (IsReferentMeant one) referents → AllByRecursion (IsReferentMeant other) referents
  each_referent [] all = tt
  each_referent (referent ∷ referents) all = (
    record { named = all.0.named; not_start = all.0.not_start; lies = has_route referent.route (IsPlaceOf referent.measure) all.0.lies },
    each_referent referents all.1,
  )

  pub referents_meant : (version : ℕ) (referents : List ReferentRecord) → AreReferentsMeant one version referents → AreReferentsMeant other version referents
  referents_meant version referents meant = record { each = each_referent (filter (is_seen kept_referents version) referents) meant.each; once = meant.once; few = meant.few }

  pub tables_meant : (version : ℕ) (items : List TableItem) (tables : List TableContents) → AllZip (IsTableMeant one version) items tables → AllZip (IsTableMeant other version) items tables
  tables_meant version [] [] all = tt
  tables_meant version [] (table ∷ tables) all = absurd all
  tables_meant version (item ∷ items) [] all = absurd all
  tables_meant version (item ∷ items) (table ∷ tables) all = (events_meant _ version table.events all.0, tables_meant version items tables all.1)

  pub records_meant : (contents : Contents) → AreRecordsMeantOn one contents → AreRecordsMeantOn other contents
  records_meant contents meant = record {
    tables = tables_meant contents.directory.accepted contents.definitions.tables contents.tables meant.tables;
    referents = referents_meant contents.directory.accepted contents.referents.referents meant.referents;
  }

-- ---- numbers of routes

abbrev numbers : List RouteSpan → List ℕ
numbers spans = map (λ span. span.number) spans

times_same : (one other : List ℕ) → IsPermutation one other → (number : ℕ) → times other number ≡ times one number
unfolding times
times_same one other same number = sum_by-IsPermutation _ one other same

numbers_said : (routes : List RouteItem) → numbers (map span_of_route routes) ≡ map (λ route. route.number) routes
numbers_said [] = refl
numbers_said (route ∷ routes) = ap (λ rest. route.number ∷ rest) (numbers_said routes)

-- none is twice among routes in another order
pub once_permuted : (routes : List RouteItem) (spans : List RouteSpan) → IsPermutation (map span_of_route routes) spans
    → (number : ℕ) → times (numbers spans) number ≡ times (map (λ route. route.number) routes) number
once_permuted routes spans same number =
    times_same (numbers (map span_of_route routes)) (numbers spans) (IsPermutation-map (λ (span : RouteSpan). span.number) (map span_of_route routes) spans same) number
    ∙ ap (λ ns. times ns number) (numbers_said routes)

above : (route : RouteSpan) (spans : List RouteSpan) → ((i : ℕ) (d : RouteSpan) → i < length spans → route.number ≤ (get_or spans i d).number) → times (numbers spans) route.number ≡ 0
    → AllByRecursion (λ later. route.number < later.number) spans
above route [] low none = tt
above route (next ∷ spans) low none =
    let counted = times-cons next.number (numbers spans) route.number in (
      elim (cases_lt route.number next.number) [
        | inl below ↦ below
        | inr past ↦
            let same : next.number ≡ route.number = omega (arith, past, low 0 next (omega arith)) in
            absurd (omega (arith, counted, none, one_at-same next.number, ap (one_at next.number) same))
      ],
      above route spans (λ i d inside. low (suc i) d (omega (arith, inside))) (omega (arith, counted, none)),
    )

-- routes whose numbers don't fall, none of which is there twice, rise
pub rising_once : (spans : List RouteSpan) → IsNonDecreasingBy (λ span. span.number) spans → ((number : ℕ) → times (numbers spans) number ≤ 1) → AreRising spans
rising_once [] sorted once = tt
rising_once (route ∷ spans) sorted once =
    let counted : (number : ℕ) → times (numbers (route ∷ spans)) number ≡ one_at route.number number + times (numbers spans) number = times-cons route.number (numbers spans) in (
      above route spans (λ i d inside. sorted 0 (suc i) d (omega arith) (omega (arith, inside))) (omega (arith, counted route.number, once route.number, one_at-same route.number)),
      rising_once spans (IsNonDecreasingBy-drop (λ (span : RouteSpan). span.number) 1 (route ∷ spans) sorted) (λ number. omega (arith, counted number, once number)),
    )

none_above : (number : ℕ) (spans : List RouteSpan) → AllByRecursion (λ later. number < later.number) spans → times (numbers spans) number ≡ 0
none_above number [] all = times-none number
none_above number (next ∷ spans) all =
    omega (
      arith,
      times-cons next.number (numbers spans) number,
      none_above number spans all.1,
      one_at-other next.number number (λ same. omega (arith, same, all.0)),
    )

past_all : (number : ℕ) (first : RouteSpan) → number ≤ first.number → (rest : List RouteSpan) → AllByRecursion (λ later. first.number < later.number) rest → AllByRecursion (λ later. number < later.number) rest
past_all number first past [] all = tt
past_all number first past (later ∷ rest) all = (omega (arith, past, all.0), past_all number first past rest all.1)

one_at-most : (page number : ℕ) → one_at page number ≤ 1
unfolding one_at
one_at-most page number = at (eqb page number) where
  at : (b : Bool) → cond b 1 0 ≤ 1
  at true = omega arith
  at false = omega arith

-- rising numbers are each there once
pub once_rising : (spans : List RouteSpan) → AreRising spans → (number : ℕ) → times (numbers spans) number ≤ 1
once_rising [] rising number = omega (arith, none_above number [] tt)
once_rising (route ∷ spans) rising number =
    let counted = times-cons route.number (numbers spans) number in
    elim (cases_lt route.number number) [
      | inl below ↦ omega (arith, counted, once_rising spans rising.1 number, one_at-other route.number number (λ same. omega (arith, same, below)))
      | inr past ↦ omega (arith, counted, none_above number spans (past_all number route past spans rising.0), one_at-most route.number number)
    ]

-- ---- whether numbers rise

abbrev pub comes_before : RouteSpan → RouteSpan → Bool
comes_before one next = nat_lt one.number next.number

rises_at : (spans : List RouteSpan) → AreRising spans → (k : ℕ) (d : RouteSpan) → suc k < length spans → comes_before (get_or spans k d) (get_or spans (suc k) d) ≡ true
rises_at [] rising k d inside = absurd (omega arith)
rises_at (route ∷ []) rising k d inside = absurd (omega arith)
rises_at (route ∷ next ∷ spans) rising zero d inside = lt-ltb route.number next.number rising.0.0
rises_at (route ∷ next ∷ spans) rising (suc k) d inside = rises_at (next ∷ spans) rising.1 k d (omega (arith, inside))

rising_from : (spans : List RouteSpan) → ((k : ℕ) (d : RouteSpan) → suc k < length spans → comes_before (get_or spans k d) (get_or spans (suc k) d) ≡ true) → AreRising spans
rising_from [] each = tt
rising_from (route ∷ []) each = (tt, tt)
rising_from (route ∷ next ∷ spans) each =
    let rest = rising_from (next ∷ spans) (λ k d inside. each (suc k) d (omega (arith, inside))) in
    let first : route.number < next.number = ltb-true route.number next.number (each 0 route (omega arith)) in
    ((first, past_all route.number next (omega (arith, first)) spans rest.0), rest)

-- the answer of `is_sorted_by`
pub answer_rising : (spans : List RouteSpan) (r : Bool) → IsAllAdjacentAnswer (λ x y b. b ≡ comes_before x y) spans r → (r ≡ true) ↔ AreRising spans
answer_rising spans true all = (
  λ e. rising_from spans (λ k d inside. subst (λ n. comes_before (get_or spans k d) (get_or spans n d) ≡ true) (add-one k) (sym (all k d (omega (arith, inside))))),
  λ is. refl,
)
answer_rising [] false none = (λ e. absurd (false≢true e), λ is. absurd (omega (arith, none.1)))
answer_rising (route ∷ spans) false none = (
  λ e. absurd (false≢true e),
  λ is. absurd (false≢true (none.2 route ∙ ap (λ n. comes_before (get_or (route ∷ spans) none.0 route) (get_or (route ∷ spans) n route)) (add-one none.0)
      ∙ rises_at (route ∷ spans) is none.0 route (omega (arith, none.1)))),
)
