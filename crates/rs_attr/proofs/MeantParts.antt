-- What the events of parts mean, beside those of a whole table.
use Rattle.std.proofs.Common.{◌≡◌, ◌<◌, ◌==◌, ◌&&◌, ℕ, Bool, true, false, cond, Option, Some, None, List, [], ◌∷◌, ◌++◌, map, filter, refl, sym, ap, ◌∙◌, subst, inl, inr, arith}
use Rattle.std.proofs.lemmas.Bool.{cases_eq, false≢true}
use Rattle.std.proofs.lemmas.Bool.Decides.{nat_tests}
use Rattle.std.proofs.lemmas.List.{append-nil}
use Rattle.std.proofs.lemmas.List.Elements.{filter-append}
use Rattle.std.specs.List.{AllByRecursion, AllZip, Contains}
use Rattle.rs_attr.specs.Meant.{IsOn, SayMeant}
use Rattle.rs_attr.specs.declared.told.ToldTable.{ToldTable}
use Rattle.rs_attr.proofs.Routes.{IsPart}
use Rattle.rs_facts.proofs.RunLaws.{apart-complete}
use Rattle.rs_facts.specs.Spans.{AreAllRunsOf, places_of}
use Rattle.rs_value.specs.declared.column.Kind.{Kind}
use Rattle.rs_versioned.specs.Events.{Event, SaysEvent, is_on, sees_event, span_of, spans_at}
use Rattle.rs_versioned.specs.Meant.{AreEventsMeant, HasRoute, IsSpanOf}
use Rattle.rs_versioned.specs.declared.route_span.RouteSpan.{RouteSpan}
use Rattle.rs_versioned.proofs.Lifting.{zip_filter}

runs_none : (kind : Kind) → AreAllRunsOf kind (places_of []) []
runs_none kind = record { once = tt; maximal = tt; complete = apart-complete kind [] tt (λ i j d inside other apart. absurd (omega (arith, inside))) }

pub none_meant : (routes : List RouteSpan) (kind : Kind) (version : ℕ) → AreEventsMeant routes kind version []
none_meant routes kind version = record { runs = λ route. runs_none kind; lie = tt }

runs_same : (kind : Kind) (one other : List Event) → one ≡ other → AreAllRunsOf kind (places_of (map span_of other)) (map span_of other) → AreAllRunsOf kind (places_of (map span_of one)) (map span_of one)
runs_same kind one other same runs = subst (λ (es : List Event). AreAllRunsOf kind (places_of (map span_of es)) (map span_of es)) (sym same) runs

module _ (version : ℕ) where
  abbrev seen_of : List Event → List Event
  seen_of events = filter (sees_event version) events

  each_seen : (P : Event → Type 0) (events : List Event) → AllByRecursion P (seen_of events) → AllByRecursion (λ event. sees_event version event ≡ true → P event) events
  each_seen P [] all = tt
  each_seen P (e ∷ es) all = by_seen (sees_event version e) refl all (each_seen P es) where
    by_seen : (b : Bool) → sees_event version e ≡ b → AllByRecursion P (cond b (e ∷ seen_of es) (seen_of es)) → (AllByRecursion P (seen_of es) → AllByRecursion (λ event. sees_event version event ≡ true → P event) es)
        → AllByRecursion (λ event. sees_event version event ≡ true → P event) (e ∷ es)
    by_seen true is all rest = ((λ seen. all.0), rest all.1)
    by_seen false isnt all rest = ((λ seen. absurd (false≢true (sym isnt ∙ seen))), rest all)

  -- of events none of which is on the route
  none_here : (route : ℕ) (events : List Event) → AllByRecursion (λ event. sees_event version event ≡ true → event.route ≡ route → ⊥) events → filter (is_on version route) events ≡ []
  none_here route [] all = refl
  none_here route (e ∷ es) all = by (e.route == route) (sees_event version e) refl refl (none_here route es all.1) where
    by : (q s : Bool) → (e.route == route) ≡ q → sees_event version e ≡ s → filter (is_on version route) es ≡ [] → cond (q && s) (e ∷ filter (is_on version route) es) (filter (is_on version route) es) ≡ []
    by true true here seen rest = let same : e.route ≡ route = grind (arith, nat_tests) in absurd (all.0 seen same)
    by true false here seen rest = rest
    by false s here seen rest = rest

  -- and of those that are all on it
  all_here : (route : ℕ) (events : List Event) → AllByRecursion (λ event. sees_event version event ≡ true → event.route ≡ route) events → filter (is_on version route) events ≡ seen_of events
  all_here route [] all = refl
  all_here route (e ∷ es) all = by (e.route == route) (sees_event version e) refl refl (all_here route es all.1) where
    by : (q s : Bool) → (e.route == route) ≡ q → sees_event version e ≡ s → filter (is_on version route) es ≡ seen_of es
        → cond (q && s) (e ∷ filter (is_on version route) es) (filter (is_on version route) es) ≡ cond s (e ∷ seen_of es) (seen_of es)
    by true true here seen rest = ap (λ (l : List Event). e ∷ l) rest
    by true false here seen rest = rest
    by false false here seen rest = rest
    by false true here seen rest =
        let same : e.route ≡ route = all.0 seen in
        let yes : (e.route == route) ≡ true = grind (arith, nat_tests) in
        absurd (false≢true (sym here ∙ yes))

all_weaker : (P Q : Event → Type 0) → ((event : Event) → P event → Q event) → (events : List Event) → AllByRecursion P events → AllByRecursion Q events
all_weaker P Q tells [] all = tt
all_weaker P Q tells (e ∷ es) all = (tells e all.0, all_weaker P Q tells es all.1)

all_joined : (P : Event → Type 0) (xs ys : List Event) → AllByRecursion P xs → AllByRecursion P ys → AllByRecursion P (xs ++ ys)
all_joined P [] ys one other = other
all_joined P (x ∷ xs) ys one other = (one.0, all_joined P xs ys one.1 other)

none_at_all : (events : List Event) → AllByRecursion (λ event. ⊥) events → events ≡ []
none_at_all [] all = refl
none_at_all (e ∷ es) all = absurd all.0

module _ (told : ToldTable) (routes : List RouteSpan) where
  abbrev kind : Kind
  kind = told.kind

  abbrev version : ℕ
  version = told.records.accepted

  abbrev IsHere : Option RouteSpan → Event → Type 0
  IsHere route event = IsOn kind route event.route (span_of event)

  abbrev Lies : Event → Type 0
  Lies event = HasRoute routes event.route (IsSpanOf kind (span_of event))

  -- ---- a part of what is meant

  module _ (route : Option RouteSpan) (test : List ℕ → Bool) (part : IsPart told.schema.items routes route test) where
    abbrev is_here : Event → Bool
    is_here event = part.between event.route

    -- the next of the events that are here, seen or not
    seen_first : (event : Event) (more : List Event) (b : Bool) → sees_event version event ≡ b → seen_of version (event ∷ more) ≡ cond b (event ∷ seen_of version more) (seen_of version more)
    seen_first event more b is = ap (λ (t : Bool). cond t (event ∷ seen_of version more) (seen_of version more)) is

    on_part : (events : List Event) → AllByRecursion Lies (seen_of version events) → AllByRecursion (IsHere route) (seen_of version (filter is_here events))
    on_part [] lie = tt
    on_part (e ∷ es) lie = by (sees_event version e) (is_here e) refl refl lie (on_part es) where
      by : (s b : Bool) → sees_event version e ≡ s → is_here e ≡ b → AllByRecursion Lies (cond s (e ∷ seen_of version es) (seen_of version es))
          → (AllByRecursion Lies (seen_of version es) → AllByRecursion (IsHere route) (seen_of version (filter is_here es)))
          → AllByRecursion (IsHere route) (seen_of version (cond b (e ∷ filter is_here es) (filter is_here es)))
      by true true seen here lie rest =
          let route_is : route ≡ Some lie.0.route = part.only lie.0.route lie.0.there (ap part.between lie.0.numbered ∙ here) in
          let one : IsHere route e = subst (λ (r : Option RouteSpan). IsHere r e) (sym route_is) (lie.0.numbered, lie.0.is_so) in
          subst (AllByRecursion (IsHere route)) (sym (seen_first e (filter is_here es) true seen)) (one, rest lie.1)
      by true false seen here lie rest = rest lie.1
      by false true seen here lie rest = subst (AllByRecursion (IsHere route)) (sym (seen_first e (filter is_here es) false seen)) (rest lie)
      by false false seen here lie rest = rest lie

    -- where it is a route's, its spans are those of the route
    spans_part : (one : RouteSpan) → route ≡ Some one → (events : List Event) → AllByRecursion Lies (seen_of version events) → seen_of version (filter is_here events) ≡ filter (is_on version one.number) events
    spans_part one same [] lie = refl
    spans_part one same (e ∷ es) lie = by (sees_event version e) (is_here e) (e.route == one.number) refl refl refl lie (spans_part one same es) where
      by : (s b q : Bool) → sees_event version e ≡ s → is_here e ≡ b → (e.route == one.number) ≡ q → AllByRecursion Lies (cond s (e ∷ seen_of version es) (seen_of version es))
          → (AllByRecursion Lies (seen_of version es) → seen_of version (filter is_here es) ≡ filter (is_on version one.number) es)
          → seen_of version (cond b (e ∷ filter is_here es) (filter is_here es)) ≡ cond (q && s) (e ∷ filter (is_on version one.number) es) (filter (is_on version one.number) es)
      by true true true seen here is lie rest = seen_first e (filter is_here es) true seen ∙ ap (λ (l : List Event). e ∷ l) (rest lie.1)
      by true true false seen here is lie rest =
          let route_is : Some one ≡ Some lie.0.route = sym same ∙ part.only lie.0.route lie.0.there (ap part.between lie.0.numbered ∙ here) in
          let one_is : one ≡ lie.0.route = cc route_is in
          let number : e.route ≡ one.number = sym (ap (λ (r : RouteSpan). r.number) one_is ∙ lie.0.numbered) in
          let yes : (e.route == one.number) ≡ true = grind (arith, nat_tests) in
          absurd (false≢true (sym is ∙ yes))
      by true false true seen here is lie rest =
          let number : e.route ≡ one.number = grind (arith, nat_tests) in
          absurd (false≢true (sym here ∙ ap part.between number ∙ part.has one same))
      by true false false seen here is lie rest = rest lie.1
      by false true true seen here is lie rest = seen_first e (filter is_here es) false seen ∙ rest lie
      by false true false seen here is lie rest = seen_first e (filter is_here es) false seen ∙ rest lie
      by false false true seen here is lie rest = rest lie
      by false false false seen here is lie rest = rest lie

    runs_part : (events : List Event) → AreEventsMeant routes kind version events → (r : Option RouteSpan) → r ≡ route
        → AreAllRunsOf kind (places_of (map span_of (seen_of version (filter is_here events)))) (map span_of (seen_of version (filter is_here events)))
    runs_part events meant None is =
        let here = subst (λ (r : Option RouteSpan). AllByRecursion (IsHere r) (seen_of version (filter is_here events))) (sym is) (on_part events meant.lie) in
        runs_same kind (seen_of version (filter is_here events)) [] (none_at_all (seen_of version (filter is_here events)) here) (runs_none kind)
    runs_part events meant (Some one) is =
        runs_same kind (seen_of version (filter is_here events)) (filter (is_on version one.number) events) (spans_part one (sym is) events meant.lie) (meant.runs one.number)

    pub meant_part : (cells : List (List ℕ)) (events : List Event) → AllZip (SaysEvent told.schema.items) cells events → AreEventsMeant routes kind version events → SayMeant told route (filter test cells)
    meant_part cells events say meant = record {
      events = filter is_here events;
      say = zip_filter (SaysEvent told.schema.items) test is_here (λ cell event says. part.tests cell event says) cells events say;
      on = on_part events meant.lie;
      runs = runs_part events meant route refl;
    }

  -- ---- one part after the others

  lies_here : (route : Option RouteSpan) → ((one : RouteSpan) → route ≡ Some one → Contains routes one) → (event : Event) → IsHere route event → Lies event
  lies_here None there event here = absurd here
  lies_here (Some one) there event here = record { route = one; there = there one refl; numbered = here.0; is_so = here.1 }

  module _ (some more : List Event) (meant : AreEventsMeant routes kind version some) where
    parted : (route : ℕ) → filter (is_on version route) (some ++ more) ≡ filter (is_on version route) some ++ filter (is_on version route) more
    parted route = filter-append (is_on version route) some more

    -- on a route on which no more are
    runs_before : (route : ℕ) → filter (is_on version route) more ≡ [] → AreAllRunsOf kind (places_of (spans_at version route (some ++ more))) (spans_at version route (some ++ more))
    runs_before route none =
        runs_same kind (filter (is_on version route) (some ++ more)) (filter (is_on version route) some)
        (parted route ∙ ap (λ (l : List Event). filter (is_on version route) some ++ l) none ∙ append-nil (filter (is_on version route) some)) (meant.runs route)

    runs_joined : (route : Option RouteSpan) → ((one : RouteSpan) → route ≡ Some one → AllByRecursion (λ event. event.route < one.number) some) → AllByRecursion (IsHere route) (seen_of version more)
        → AreAllRunsOf kind (places_of (map span_of (seen_of version more))) (map span_of (seen_of version more))
        → (number : ℕ) → AreAllRunsOf kind (places_of (spans_at version number (some ++ more))) (spans_at version number (some ++ more))
    runs_joined None before here runs number = runs_before number (none_here version number more (all_weaker (λ event. sees_event version event ≡ true → ⊥)
        (λ event. sees_event version event ≡ true → event.route ≡ number → ⊥) (λ event no seen same. no seen) more (each_seen version (λ event. ⊥) more here)))
    runs_joined (Some one) before here runs number =
        let each = each_seen version (IsHere (Some one)) more here in
        elim (cases_eq number one.number) [
          | inl same ↦
              let none : filter (is_on version number) some ≡ [] =
              none_here version number some (all_weaker (λ event. event.route < one.number) (λ event. sees_event version event ≡ true → event.route ≡ number → ⊥)
              (λ event below seen is. omega (arith, below, is, same)) some (before one refl)) in
              let all : filter (is_on version number) more ≡ seen_of version more =
              all_here version number more (all_weaker (λ event. sees_event version event ≡ true → IsHere (Some one) event) (λ event. sees_event version event ≡ true → event.route ≡ number)
              (λ event is seen. sym (is seen).0 ∙ sym same) more each) in
              runs_same kind (filter (is_on version number) (some ++ more)) (seen_of version more) (parted number ∙ ap (λ (l : List Event). l ++ filter (is_on version number) more) none ∙ all) runs
          | inr apart ↦
              runs_before number (none_here version number more (all_weaker (λ event. sees_event version event ≡ true → IsHere (Some one) event)
              (λ event. sees_event version event ≡ true → event.route ≡ number → ⊥) (λ event is seen same. apart (sym same ∙ sym (is seen).0)) more each))
        ]

    pub meant_both : (route : Option RouteSpan) → ((one : RouteSpan) → route ≡ Some one → Contains routes one) → ((one : RouteSpan) → route ≡ Some one → AllByRecursion (λ event. event.route < one.number) some)
        → AllByRecursion (IsHere route) (seen_of version more) → AreAllRunsOf kind (places_of (map span_of (seen_of version more))) (map span_of (seen_of version more))
        → AreEventsMeant routes kind version (some ++ more)
    meant_both route there before here runs = record {
      runs = runs_joined route before here runs;
      lie = subst (AllByRecursion Lies) (sym (filter-append (sees_event version) some more))
          (all_joined Lies (seen_of version some) (seen_of version more) meant.lie (all_weaker (IsHere route) Lies (lies_here route there) (seen_of version more) here));
    }
