-- Versions keep just the runs of their facts while events come, end and are cleared.
use Rattle.std.proofs.Common.{◌≡◌, ◌<◌, ◌≤◌, ◌+◌, ◌==◌, ◌&&◌, ℕ, Bool, cond, List, [], ◌∷◌, map, filter, refl, sym, ap, ◌∙◌, subst, inl, inr, arith}
use Rattle.std.proofs.lemmas.Bool.{cases_eq, cases_lt}
use Rattle.std.proofs.lemmas.List.Elements.{Contains-append_right}
use Rattle.std.proofs.lemmas.List.Sorted.{IsPermutation-sym}
use Rattle.std.specs.List.{AllByRecursion, Contains}
use Rattle.std.specs.List.Sorted.{IsPermutation}
use Rattle.rs_facts.proofs.RunLaws.{apart-complete, cases_cons, each-at}
use Rattle.rs_facts.proofs.SpanLaws.{Covers, places_of-alike, places_of-permutation}
use Rattle.rs_facts.specs.Runs.{Stretch}
use Rattle.rs_facts.specs.Spans.{AreAllRunsOf, AreOnce, places_of}
use Rattle.rs_pages.specs.PageMap.{PageMap}
use Rattle.rs_value.specs.Row.{Row}
use Rattle.rs_value.specs.declared.column.ColumnType.{ColumnType}
use Rattle.rs_value.specs.declared.column.Kind.{Kind}
use Rattle.rs_cell_versions.specs.declared.cell.TheConstants.{LIVING}
use Rattle.rs_cell_versions.specs.Versioned.{Standing}
use Rattle.rs_versioned.specs.Events.{Event, facts_at, is_on, kept_events, sees_event, span_of, spans_at}
use Rattle.rs_versioned.specs.Records.{HasCleared, HasEnded, HasOneMore, HoldsRecords}
use Rattle.rs_versioned.specs.Runs.{AreRunsAt, AreRunsBeside, AreRunsFrom, ChangesAll, ChangesOne}
use Rattle.rs_versioned.proofs.EventsSeen.{event_route, events_end}
use Rattle.rs_versioned.proofs.KeptRecords.{events_are_kept}
use Rattle.rs_versioned.proofs.Present.{held_level}
use Rattle.rs_versioned.proofs.SameRuns.{once_shuffled, runs_shuffled}
use Rattle.rs_versioned.proofs.SeenAfter.{WasTwice, before_birth, before_end_or_twice, come_elsewhere, ended_elsewhere, unseen_cleared}

-- ---- spans in another order, and a span that is listed twice

moved : (kind : Kind) (old now : List Stretch) → IsPermutation now old → AreAllRunsOf kind (places_of old) old → AreAllRunsOf kind (places_of now) now
moved kind old now p = runs_shuffled kind old now (IsPermutation-sym now old p)

never_twice : (one : Stretch) (old now : List Stretch) → AreOnce old → WasTwice one old now → ⊥
never_twice one old now once twice =
    let again : AreOnce (one ∷ now) = once_shuffled old (one ∷ now) twice.more once in
    each-at (λ other. one ≡ other → ⊥) now one again.0 twice.there refl

-- a span that is there already adds nothing
again_nothing : (one : Stretch) (spans : List Stretch) → Contains spans one → places_of (one ∷ spans) ≡ places_of spans
again_nothing one spans has = places_of-alike (one ∷ spans) spans back there where
  back : (row : Row) (k : ℕ) → Covers (one ∷ spans) row k → Covers spans row k
  back row k covers = record {
    span = covers.span;
    among = elim (cases_cons one covers.span spans covers.among) [ inl same ↦ subst (Contains spans) same has | inr later ↦ later ];
    is = covers.is;
  }

  there : (row : Row) (k : ℕ) → Covers spans row k → Covers (one ∷ spans) row k
  there row k covers = record { span = covers.span; among = Contains-append_right (one ∷ []) spans covers.span covers.among; is = covers.is }

twice_alike : (one : Stretch) (old now : List Stretch) → WasTwice one old now → places_of now ≡ places_of old
twice_alike one old now twice = sym (places_of-permutation old (one ∷ now) twice.more ∙ again_nothing one now twice.there)

-- versions before the end of an event have their facts, even where it was there as an ended one
pub facts_before_end : (types : List ColumnType) (version at route : ℕ) (one : Event) (old now : List Event) → HasEnded (kept_events types) version one old now → one.died ≡ LIVING
    → version < LIVING → at < version → facts_at at route now ≡ facts_at at route old
facts_before_end types version at route one old now ended living below before =
    let lives : at < one.died = subst (λ (n : ℕ). at < n) (sym living) (omega (arith, before, below)) in
    elim (before_end_or_twice (kept_events types) event_route span_of (events_end types) version at route one old now ended before lives) [
      | inl same ↦ places_of-permutation (spans_at at route now) (spans_at at route old) same
      | inr twice ↦ twice_alike (span_of one) (spans_at at route old) (spans_at at route now) twice
    ]

runs_of_none : (kind : Kind) → AreAllRunsOf kind (places_of []) []
runs_of_none kind = record { once = tt; maximal = tt; complete = apart-complete kind [] tt (λ i j d inside other apart. absurd (omega (arith, inside))) }

-- ---- the versions before the one at which events change

pub runs_none : (kind : Kind) (oldest accepted : ℕ) → AreRunsFrom kind oldest accepted []
runs_none kind oldest accepted = record { each = λ version route from upto. runs_of_none kind }

module _ (kind : Kind) (oldest accepted : ℕ) where
  pub runs_within : (from upto : ℕ) (events : List Event) → AreRunsFrom kind oldest accepted events → oldest ≤ from → upto ≤ accepted → AreRunsFrom kind from upto events
  runs_within from upto events runs later earlier = record { each = λ version route after before. runs.each version route (omega arith) (omega arith) }

  pub runs_come : (one : Event) (old now : List Event) → AreRunsFrom kind oldest accepted old → HasOneMore one old now → accepted < one.born → AreRunsFrom kind oldest accepted now
  runs_come one old now runs more late = record {
    each = λ version route from upto. moved kind (spans_at version route old) (spans_at version route now)
        (before_birth (kept_events []) event_route span_of version route one old now more (omega arith)) (runs.each version route from upto);
  }

  pub runs_end : (types : List ColumnType) (at : ℕ) (one : Event) (old now : List Event) → AreRunsFrom kind oldest accepted old → HasEnded (kept_events types) at one old now
      → one.died ≡ LIVING → accepted < at → at < LIVING → AreRunsFrom kind oldest accepted now
  runs_end types at one old now runs ended living late below = record { each = still } where
    still : (version route : ℕ) → oldest ≤ version → version ≤ accepted → AreRunsAt kind version route now
    still version route from upto =
        let were = runs.each version route from upto in
        let lives : version < one.died = subst (λ (n : ℕ). version < n) (sym living) (omega (arith, late, below, upto)) in
        elim (before_end_or_twice (kept_events types) event_route span_of (events_end types) at version route one old now ended (omega (arith, late, upto)) lives) [
          | inl same ↦ moved kind (spans_at version route old) (spans_at version route now) same were
          | inr twice ↦ absurd (never_twice (span_of one) (spans_at version route old) (spans_at version route now) were.once twice)
        ]

  pub runs_clear : (types : List ColumnType) (from : ℕ) (cells : List (List ℕ)) (old now : List Event) → AreRunsFrom kind oldest accepted old → HasCleared (kept_events types) from cells old now
      → oldest ≤ from → AreRunsFrom kind from accepted now
  runs_clear types from cells old now runs without later = record {
    each = λ version route after upto. moved kind (spans_at version route old) (spans_at version route now)
        (unseen_cleared (kept_events types) event_route span_of version route from cells old now without after) (runs.each version route (omega arith) upto);
  }

  pub runs_last : (events : List Event) → AreRunsFrom kind oldest accepted events → ((route : ℕ) → AreRunsAt kind (accepted + 1) route events) → AreRunsFrom kind oldest (accepted + 1) events
  runs_last events runs last = record {
    each = λ version route from upto. elim (cases_lt accepted version) [
      | inl past ↦ let same : accepted + 1 ≡ version = omega (arith, past, upto) in subst (λ (v : ℕ). AreRunsAt kind v route events) same (last route)
      | inr before ↦ runs.each version route from before
    ];
  }

-- ---- a version without changes

filter_alike : (one other : Event → Bool) (events : List Event) → AllByRecursion (λ event. one event ≡ other event) events → filter one events ≡ filter other events
filter_alike one other [] all = refl
filter_alike one other (e ∷ es) all =
    ap (λ b. cond b (e ∷ filter one es) (filter one es)) all.0 ∙ ap (λ (l : List Event). cond (other e) (e ∷ l) l) (filter_alike one other es all.1)

on_alike : (from to route : ℕ) (events : List Event) → AllByRecursion (λ event. sees_event to event ≡ sees_event from event) events → AllByRecursion (λ event. is_on to route event ≡ is_on from route event) events
on_alike from to route [] all = tt
on_alike from to route (e ∷ es) all = (ap (λ b. e.route == route && b) all.0, on_alike from to route es all.1)

module _ (types : List ColumnType) (pages : PageMap) (standing : Standing) (accepted : ℕ) (events : List Event) (used : ℕ → ℕ) (holds : HoldsRecords (kept_events types) pages standing accepted events used) where
  pub spans_level : (version route : ℕ) → accepted ≤ version → version < LIVING → spans_at version route events ≡ spans_at accepted route events
  spans_level version route later below =
      ap (map span_of) (filter_alike (is_on version route) (is_on accepted route) events
      (on_alike accepted version route events (held_level (kept_events types) (events_are_kept types) pages standing accepted version events used holds later below)))

  pub runs_level : (kind : Kind) (oldest version : ℕ) → AreRunsFrom kind oldest accepted events → oldest ≤ accepted → version < LIVING → AreRunsFrom kind oldest version events
  runs_level kind oldest version runs some below = record { each = each } where
    each : (at route : ℕ) → oldest ≤ at → at ≤ version → AreRunsAt kind at route events
    each at route from upto = elim (cases_lt accepted at) [
      | inl past ↦
          let same : spans_at at route events ≡ spans_at accepted route events = spans_level at route (omega (arith, past)) (omega (arith, upto, below)) in
          subst (λ spans. AreAllRunsOf kind (places_of spans) spans) (sym same) (runs.each accepted route some (omega arith))
      | inr before ↦ runs.each at route from before
    ]

  pub beside_begin : (kind : Kind) (oldest version route : ℕ) → AreRunsFrom kind oldest accepted events → oldest ≤ accepted → accepted ≤ version → version < LIVING
      → AreRunsBeside kind oldest accepted version route events
  beside_begin kind oldest version route runs some later below = record {
    earlier = runs;
    elsewhere = λ other apart. (runs_level kind oldest version runs some below).each version other (omega (arith, some, later)) (omega arith);
  }

-- ---- a version at which a command changes a route

module _ (kind : Kind) (oldest accepted version route : ℕ) where
  pub beside_come : (one : Event) (old now : List Event) → AreRunsBeside kind oldest accepted version route old → HasOneMore one old now → one.route ≡ route → accepted < one.born
      → AreRunsBeside kind oldest accepted version route now
  beside_come one old now were more on late = record {
    earlier = runs_come kind oldest accepted one old now were.earlier more late;
    elsewhere = λ other apart. moved kind (spans_at version other old) (spans_at version other now)
        (come_elsewhere (kept_events []) event_route span_of version other one old now more (λ same. apart (same ∙ on))) (were.elsewhere other apart);
  }

  pub beside_end : (types : List ColumnType) (at : ℕ) (one : Event) (old now : List Event) → AreRunsBeside kind oldest accepted version route old → HasEnded (kept_events types) at one old now
      → one.route ≡ route → one.died ≡ LIVING → accepted < at → at < LIVING → AreRunsBeside kind oldest accepted version route now
  beside_end types at one old now were ended on living late below = record {
    earlier = runs_end kind oldest accepted types at one old now were.earlier ended living late below;
    elsewhere = λ other apart. moved kind (spans_at version other old) (spans_at version other now)
        (ended_elsewhere (kept_events types) event_route span_of (events_end types) at version other one old now ended (λ same. apart (same ∙ on))) (were.elsewhere other apart);
  }

  pub beside_clear : (types : List ColumnType) (from : ℕ) (cells : List (List ℕ)) (old now : List Event) → AreRunsBeside kind oldest accepted version route old
      → HasCleared (kept_events types) from cells old now → oldest ≤ from → from ≤ version → AreRunsBeside kind from accepted version route now
  beside_clear types from cells old now were without later upto = record {
    earlier = runs_clear kind oldest accepted types from cells old now were.earlier without later;
    elsewhere = λ other apart. moved kind (spans_at version other old) (spans_at version other now)
        (unseen_cleared (kept_events types) event_route span_of version other from cells old now without upto) (were.elsewhere other apart);
  }

  pub beside_done : (events : List Event) → AreRunsBeside kind oldest accepted version route events → version ≡ accepted + 1 → AreRunsAt kind version route events → AreRunsFrom kind oldest version events
  beside_done events were next last = subst (λ (v : ℕ). AreRunsFrom kind oldest v events) (sym next) (runs_last kind oldest accepted events were.earlier all) where
    all : (other : ℕ) → AreRunsAt kind (accepted + 1) other events
    all other = subst (λ (v : ℕ). AreRunsAt kind v other events) next (elim (cases_eq other route) [
      | inl same ↦ subst (λ (r : ℕ). AreRunsAt kind version r events) (sym same) last
      | inr apart ↦ were.elsewhere other apart
    ])

  module _ (types : List ColumnType) (late : accepted < version) (below : version < LIVING) where
    beside_one : (old now : List Event) → AreRunsBeside kind oldest accepted version route old → ChangesOne types version route old now → AreRunsBeside kind oldest accepted version route now
    beside_one old now were step = elim step.change [
      | inl come ↦ beside_come step.one old now were come.1 step.on_route (omega (arith, late, come.0))
      | inr gone ↦ beside_end types version step.one old now were gone.1 step.on_route gone.0 late below
    ]

    pub beside_all : (old : List Event) (steps : List (List Event)) (now : List Event) → AreRunsBeside kind oldest accepted version route old → ChangesAll types version route old steps now
        → AreRunsBeside kind oldest accepted version route now
    beside_all old [] now were same = subst (AreRunsBeside kind oldest accepted version route) (sym same) were
    beside_all old (next ∷ later) now were all = beside_all next later now (beside_one old next were all.0) all.1

pub runs_after : (types : List ColumnType) (pages : PageMap) (standing : Standing) (kind : Kind) (oldest accepted version route : ℕ) (old : List Event) (steps : List (List Event)) (now : List Event) (used : ℕ → ℕ)
    → HoldsRecords (kept_events types) pages standing accepted old used → AreRunsFrom kind oldest accepted old → oldest ≤ accepted → version ≡ accepted + 1 → version < LIVING
    → ChangesAll types version route old steps now → AreRunsAt kind version route now → AreRunsFrom kind oldest version now
runs_after types pages standing kind oldest accepted version route old steps now used holds runs some next below all last =
    let begun = beside_begin types pages standing accepted old used holds kind oldest version route runs some (omega (arith, next)) below in
    beside_done kind oldest accepted version route now (beside_all kind oldest accepted version route types (omega (arith, next)) below old steps now begun all) next last
