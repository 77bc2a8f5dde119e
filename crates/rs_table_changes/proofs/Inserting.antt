-- Insertion, as a version sees it.
use Rattle.std.proofs.Common.{◌≡◌, ◌≢◌, ◌+◌, ◌-◌, ◌<◌, ◌≤◌, ◌==◌, ◌&&◌, ◌⊎◌, ℕ, zero, suc, min, max, Bool, true, nat_lt, inl, inr, List, [], ◌∷◌, ◌++◌, map, filter, sym, ap, ◌∙◌, subst, arith}
use Rattle.std.proofs.lemmas.Bool.{and_from, and_parts, cases_lt, lt-ltb, ltb-true}
use Rattle.std.proofs.lemmas.List.Sorted.{IsPermutation-refl, IsPermutation-sym}
use Rattle.std.specs.List.{AllByRecursion, Contains}
use Rattle.std.specs.List.Sorted.{IsPermutation}
use Rattle.rs_cell_versions.specs.declared.cell.TheConstants.{LIVING}
use Rattle.rs_facts.specs.Insert.{missing, with_row}
use Rattle.rs_facts.specs.Runs.{Stretch}
use Rattle.rs_facts.specs.Spans.{AreAllRunsOf, IsPlaced, gap_of, places_of}
use Rattle.rs_facts.proofs.Counting.{missing-none}
use Rattle.rs_facts.proofs.KeptLaws.{placed-some}
use Rattle.rs_facts.proofs.Rows.{same_row, same_row-equal, same_row-true}
use Rattle.rs_facts.proofs.RunLaws.{cases_cons, each-at, every-from_each}
use Rattle.rs_facts.proofs.SpanLaws.{contains-from_Holds, places_of-permutation}
use Rattle.rs_spans.specs.Within.{AllLieWithin, LiesWithin}
use Rattle.rs_value.specs.Row.{Row}
use Rattle.rs_value.specs.declared.column.ColumnType.{ColumnType}
use Rattle.rs_value.specs.declared.column.Kind.{Kind}
use Rattle.rs_versioned.specs.Events.{Event, facts_at, is_on, is_visible, kept_events, sees_event, span_of, spans_at}
use Rattle.rs_versioned.specs.Runs.{AreRunsAt}
use Rattle.rs_versioned.proofs.OnRoutes.{filter_both}
use Rattle.rs_versioned.proofs.Present.{IsDatedRecord}
use Rattle.rs_versioned.proofs.SameRuns.{runs_shuffled}
use Rattle.rs_table_changes.specs.Chains.{GivesWay}
use Rattle.rs_table_changes.specs.Picked.{IsHeld, highest, lowest, passing, shared_by, wide}
use Rattle.rs_table_changes.proofs.Apart.{AreApart, apart_of, once_of_apart}
use Rattle.rs_table_changes.proofs.Seeing.{gone_there, now_here, now_only, now_there, rest_fails, rest_there, source, split}
use Rattle.rs_table_changes.proofs.Shown.{kept_has}
use Rattle.rs_table_changes.proofs.WideSpans.{StandsOff, Touches, held_means, high, joined_apart, joined_count, joined_means, joined_runs, low}

-- what this version sees, beside what live versions do
pub record InsertsHere (kind : Kind) (accepted version route : ℕ) (span : Stretch) (count : ℕ) (old now : List Event) : Type 0 where
  pub elsewhere : (other : ℕ) → other ≢ route → IsPermutation (spans_at version other now) (spans_at accepted other old)
  pub facts : AreRunsAt kind accepted route old → facts_at version route now ≡ with_row span.lo span.hi span.row (facts_at accepted route old)
  pub runs : AreRunsAt kind accepted route old → AreRunsAt kind version route now
  pub within : (start finish : ℕ) → AllLieWithin start finish (spans_at accepted route old) → start ≤ span.lo → span.hi ≤ finish → AllLieWithin start finish (spans_at version route now)
  pub counted : AreRunsAt kind accepted route old → count ≡ missing span.lo span.hi span.row (facts_at accepted route old)

lowest_from : (start lo : ℕ) (spans : List Stretch) → start ≤ lo → AllByRecursion (λ (s : Stretch). start ≤ s.lo) spans → start ≤ lowest lo spans
lowest_from start lo [] le all = le
lowest_from start lo (s ∷ spans) le all = lowest_from start (min lo s.lo) spans (omega (arith, le, all.0)) all.1

highest_upto : (finish hi : ℕ) (spans : List Stretch) → hi ≤ finish → AllByRecursion (λ (s : Stretch). s.hi ≤ finish) spans → highest hi spans ≤ finish
highest_upto finish hi [] le all = le
highest_upto finish hi (s ∷ spans) le all = highest_upto finish (max hi s.hi) spans (omega (arith, le, all.0)) all.1

event_at : (P : Event → Type 0) (xs : List Event) (x : Event) → AllByRecursion P xs → Contains xs x → P x
event_at P [] x all has = absurd (omega (arith, has.1))
event_at P (y ∷ xs) x all (zero, inside, is) = subst P is all.0
event_at P (y ∷ xs) x all (suc k, inside, is) = event_at P xs x all.1 (k, omega arith, is)

-- the event is one of those of the row that are visible
abbrev pub is_one_met : (version route from upto : ℕ) (row : Row) → Event → Bool
is_one_met version route from upto row one = is_visible version route from upto one && same_row one.row row

pub one_met_on : (version route from upto : ℕ) (row : Row) (one : Event) → is_one_met version route from upto row one ≡ true → is_on version route one ≡ true
one_met_on version route from upto row one e =
    let visible = (and_parts (is_visible version route from upto one) (same_row one.row row) e).0 in
    let parts = and_parts (one.route == route && (nat_lt one.lo upto && nat_lt from one.hi)) (sees_event version one) visible in
    let rest = and_parts (one.route == route) (nat_lt one.lo upto && nat_lt from one.hi) parts.0 in
    and_from (one.route == route) (sees_event version one) rest.0 parts.1

module _ (types : List ColumnType) (kind : Kind) (version route : ℕ) (below : version < LIVING) (accepted : ℕ) (before : accepted < version) (events now : List Event)
    (dated : AllByRecursion (IsDatedRecord (kept_events types) accepted) events) (fit : AllByRecursion (λ (one : Event). one.hi < 4294967296) events)
    (level : (other : ℕ) → spans_at version other events ≡ spans_at accepted other events)
    (span : Stretch) (placed : IsPlaced kind span) (from upto : ℕ) (reaches : from ≡ span.lo - gap_of kind) (ends : upto ≡ min (span.hi + gap_of kind) 4294967295) where
  abbrev pub is_met : Event → Bool
  is_met = is_one_met version route from upto span.row

  abbrev pub met : List Event
  met = filter is_met events

  abbrev seen_now : List Stretch
  seen_now = spans_at version route events

  met_on : (one : Event) → is_met one ≡ true → is_on version route one ≡ true
  met_on one e = one_met_on version route from upto span.row one e

  met_touches : (one : Event) → is_met one ≡ true → Touches kind span (span_of one)
  met_touches one e =
      let both = and_parts (is_visible version route from upto one) (same_row one.row span.row) e in
      let parts = and_parts (one.route == route && (nat_lt one.lo upto && nat_lt from one.hi)) (sees_event version one) both.0 in
      let rest = and_parts (one.route == route) (nat_lt one.lo upto && nat_lt from one.hi) parts.0 in
      let two = and_parts (nat_lt one.lo upto) (nat_lt from one.hi) rest.1 in
      let left = ltb-true one.lo upto two.0 in
      let right = ltb-true from one.hi two.1 in
      record { same = same_row-true one.row span.row both.1; from = omega (arith, left, ends); upto = omega (arith, right, reaches) }

  touching_met : (one : Event) → Contains events one → is_on version route one ≡ true → IsPlaced kind (span_of one) → Touches kind span (span_of one) → is_met one ≡ true
  touching_met one among on there touches =
      let parts = and_parts (one.route == route) (sees_event version one) on in
      let small = event_at (λ (e : Event). e.hi < 4294967296) events one fit among in
      let some = placed-some kind (span_of one) there in
      let mine = placed-some kind span placed in
      let left = touches.from in
      let right = touches.upto in
      and_from (is_visible version route from upto one) (same_row one.row span.row)
      (and_from (one.route == route && (nat_lt one.lo upto && nat_lt from one.hi)) (sees_event version one)
      (and_from (one.route == route) (nat_lt one.lo upto && nat_lt from one.hi) parts.0
      (and_from (nat_lt one.lo upto) (nat_lt from one.hi) (lt-ltb one.lo upto (omega (arith, left, ends, small, some))) (lt-ltb from one.hi (omega (arith, right, reaches, some)))))
      parts.1)
      (same_row-equal one.row span.row touches.same)

  all_touch : AllByRecursion (Touches kind span) (map span_of met)
  all_touch = every-from_each (Touches kind span) (map span_of (filter is_met events))
      (λ s has. let from_one = source is_met events s has in subst (Touches kind span) from_one.is (met_touches from_one.one from_one.passes))

  runs_now : AreRunsAt kind accepted route events → AreAllRunsOf kind (places_of seen_now) seen_now
  runs_now runs = subst (λ spans. AreAllRunsOf kind (places_of spans) spans) (sym (level route)) runs

  module _ (way : GivesWay types version route met (wide span (map span_of met) ∷ []) events now) where
    abbrev rest : List Stretch
    rest = spans_at version route way.between

    are : IsPermutation seen_now (map span_of met ++ rest)
    are = split types version route below accepted before events now dated is_met met_on (wide span (map span_of met) ∷ []) way

    touches_or_off : (s : Stretch) → IsPlaced kind s → s.row ≡ span.row → (Touches kind span s → ⊥) → (s.hi + gap_of kind ≤ span.lo) ⊎ (span.hi + gap_of kind ≤ s.lo)
    touches_or_off s there same never = elim (cases_lt span.lo (s.hi + gap_of kind)) [
      | inr left ↦ inl left
      | inl reach ↦ elim (cases_lt s.lo (span.hi + gap_of kind)) [
        | inr right ↦ inr right
        | inl too ↦ absurd (never (record { same = same; from = too; upto = reach }))
      ]
    ]

    off_one : AreRunsAt kind accepted route events → (s : Stretch) → Contains rest s → StandsOff kind span s
    off_one runs s has =
        let apart = apart_of kind (places_of seen_now) seen_now (runs_now runs) in
        let there = rest_there types version route below accepted before events now dated is_met met_on (wide span (map span_of met) ∷ []) way s has in
        let sits : IsPlaced kind s = each_placed seen_now apart s there in
        let from_one = source (is_on version route) events s there in
        record {
          placed = sits;
          off = λ same. touches_or_off s sits same (λ touches.
              rest_fails types version route below accepted before events now dated is_met met_on (wide span (map span_of met) ∷ []) way (once_of_apart kind seen_now apart) from_one.one from_one.among
              (touching_met from_one.one from_one.among from_one.passes (subst (IsPlaced kind) (sym from_one.is) sits) (subst (Touches kind span) (sym from_one.is) touches))
              (subst (Contains rest) (sym from_one.is) has));
        }
      where
        each_placed : (spans : List Stretch) → AreApart kind spans → (s : Stretch) → Contains spans s → IsPlaced kind s
        each_placed spans apart s has = each-at (IsPlaced kind) spans s (all_placed spans apart) has
          where
            all_placed : (spans : List Stretch) → AreApart kind spans → AllByRecursion (IsPlaced kind) spans
            all_placed [] apart = tt
            all_placed (x ∷ spans) apart = (apart.0, all_placed spans apart.2)

    all_off : AreRunsAt kind accepted route events → AllByRecursion (StandsOff kind span) rest
    all_off runs = every-from_each (StandsOff kind span) rest (off_one runs)

    are_now : AreRunsAt kind accepted route events → IsPermutation (spans_at version route now) (wide span (map span_of met) ∷ rest)
    are_now runs =
        now_here types version route below accepted before events now dated is_met met_on (wide span (map span_of met) ∷ []) way
        (once_of_apart kind (wide span (map span_of met) ∷ rest) (joined_apart kind span placed seen_now (map span_of met) rest are (runs_now runs) all_touch (all_off runs)))

    pub widened : (count : ℕ) → count ≡ (span.hi - span.lo) - shared_by span.lo span.hi (map span_of met) → InsertsHere kind accepted version route span count events now
    widened count counted = record {
      elsewhere = λ other apart. subst (IsPermutation (spans_at version other now)) (level other)
          (now_there types version route below accepted before events now dated is_met met_on (wide span (map span_of met) ∷ []) way other apart);
      facts = λ runs.
          places_of-permutation (spans_at version route now) (wide span (map span_of met) ∷ rest) (are_now runs)
          ∙ joined_means kind span placed seen_now (map span_of met) rest are (runs_now runs) all_touch (all_off runs)
          ∙ ap (λ spans. with_row span.lo span.hi span.row (places_of spans)) (level route);
      runs = λ runs. runs_shuffled kind (wide span (map span_of met) ∷ rest) (spans_at version route now)
          (IsPermutation-sym (spans_at version route now) (wide span (map span_of met) ∷ rest) (are_now runs))
          (joined_runs kind span placed seen_now (map span_of met) rest are (runs_now runs) all_touch (all_off runs));
      within = λ start finish all low high.
          let lie : AllLieWithin start finish seen_now = subst (AllLieWithin start finish) (sym (level route)) all in
          every-from_each (LiesWithin start finish) (spans_at version route now) (λ s has.
          elim (now_only types version route below accepted before events now dated is_met met_on (wide span (map span_of met) ∷ []) way s has) [
            | inl came ↦ elim (cases_cons (wide span (map span_of met)) s [] came) [
              | inl same ↦ subst (LiesWithin start finish) same (record {
                from = lowest_from start span.lo (map span_of met) low (every-from_each (λ (m : Stretch). start ≤ m.lo) (map span_of met) (λ m among. (each-at (LiesWithin start finish) seen_now m lie (was m among)).from));
                upto = highest_upto finish span.hi (map span_of met) high (every-from_each (λ (m : Stretch). m.hi ≤ finish) (map span_of met) (λ m among. (each-at (LiesWithin start finish) seen_now m lie (was m among)).upto));
              })
              | inr none ↦ absurd (omega (arith, none.1))
            ]
            | inr was ↦ each-at (LiesWithin start finish) seen_now s lie was
          ]);
      counted = λ runs.
          counted ∙ sym (joined_count kind span placed seen_now (map span_of met) rest are (runs_now runs) all_touch (all_off runs))
          ∙ ap (λ spans. missing span.lo span.hi span.row (places_of spans)) (level route);
    }
      where
        was : (m : Stretch) → Contains (map span_of (filter is_met events)) m → Contains seen_now m
        was m among = gone_there types version route below accepted before events now dated is_met met_on (wide span (map span_of (filter is_met events)) ∷ []) way m among

  -- one of those that are met holds all along
  module _ (gone : List (List ℕ)) (come : List Stretch) (count : ℕ) (held : IsHeld span met gone come count) (same : now ≡ events) where
    one_there : Contains seen_now held.one
    one_there =
        let from_one = source is_met events held.one held.among in
        subst (Contains seen_now) from_one.is (kept_has (is_on version route) events from_one.one (met_on from_one.one from_one.passes) from_one.among)

    one_row : held.one.row ≡ span.row
    one_row = let from_one = source is_met events held.one held.among in ap (λ (s : Stretch). s.row) (sym from_one.is) ∙ (met_touches from_one.one from_one.passes).same

    pub held_still : InsertsHere kind accepted version route span count events events
    held_still = record {
      elsewhere = λ other apart. subst (IsPermutation (spans_at version other events)) (level other) (IsPermutation-refl (spans_at version other events));
      facts = λ runs. held_means span seen_now held.one one_there one_row held.covered ∙ ap (λ spans. with_row span.lo span.hi span.row (places_of spans)) (level route);
      runs = λ runs. runs_now runs;
      within = λ start finish all low high. subst (AllLieWithin start finish) (sym (level route)) all;
      counted = λ runs.
          let mine = placed-some kind span placed in
          held.no_new ∙ sym (missing-none span.lo span.hi span.row (places_of seen_now) (omega (arith, mine)) (λ k a b.
          contains-from_Holds seen_now held.one span.row k one_there (record {
            same = one_row;
            from = let l = low span seen_now held.one one_there one_row held.covered in omega (arith, l, a);
            below = let h = high span seen_now held.one one_there one_row held.covered in omega (arith, h, b);
          })))
          ∙ ap (λ spans. missing span.lo span.hi span.row (places_of spans)) (level route);
    }

    pub held_now : InsertsHere kind accepted version route span count events now
    held_now = subst (InsertsHere kind accepted version route span count events) (sym same) held_still

-- the events that are met are those of the row among those that are visible
pub met_are : (version route from upto : ℕ) (row : Row) (events : List Event) → passing (λ other. same_row other row) (filter (is_visible version route from upto) events)
    ≡ filter (is_one_met version route from upto row) events
met_are version route from upto row events = filter_both (is_visible version route from upto) (λ (one : Event). same_row one.row row) events
