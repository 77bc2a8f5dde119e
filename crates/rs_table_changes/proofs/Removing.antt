-- Removal, as a version sees it.
use Rattle.std.proofs.Common.{◌≡◌, ◌≢◌, ◌<◌, ◌≤◌, ◌==◌, ◌&&◌, ℕ, Bool, true, nat_lt, inl, inr, List, [], ◌∷◌, ◌++◌, map, filter, sym, ap, ◌∙◌, subst, arith}
use Rattle.std.proofs.lemmas.Bool.{and_from, and_parts, cases_lt, lt-ltb}
use Rattle.std.proofs.lemmas.List.Sorted.{IsPermutation-refl, IsPermutation-sym}
use Rattle.std.specs.List.{AllByRecursion, Contains}
use Rattle.std.specs.List.Sorted.{IsPermutation}
use Rattle.rs_cell_versions.specs.declared.cell.TheConstants.{LIVING}
use Rattle.rs_spans.proofs.RemovedSpans.{going-empty, without_rows-empty}
use Rattle.rs_facts.specs.Remove.{going, without_rows}
use Rattle.rs_facts.specs.Runs.{Stretch}
use Rattle.rs_facts.specs.Spans.{AreAllRunsOf, IsPlaced, places_of}
use Rattle.rs_facts.proofs.RunLaws.{each-at, every-from_each}
use Rattle.rs_facts.proofs.SpanLaws.{places_of-permutation}
use Rattle.rs_spans.specs.Within.{AllLieWithin, LiesWithin}
use Rattle.rs_value.specs.Row.{Row}
use Rattle.rs_value.specs.declared.column.ColumnType.{ColumnType}
use Rattle.rs_value.specs.declared.column.Kind.{Kind}
use Rattle.rs_versioned.specs.Events.{Event, facts_at, is_on, is_visible, kept_events, sees_event, span_of, spans_at}
use Rattle.rs_versioned.specs.Runs.{AreRunsAt}
use Rattle.rs_versioned.proofs.OnRoutes.{filter_both}
use Rattle.rs_versioned.proofs.Present.{IsDatedRecord}
use Rattle.rs_versioned.proofs.SameRuns.{runs_shuffled}
use Rattle.rs_table_changes.specs.Chains.{GivesWay}
use Rattle.rs_table_changes.specs.Picked.{outside_all, passing, shared_by}
use Rattle.rs_table_changes.proofs.Apart.{AreApart, apart_of, once_of_apart}
use Rattle.rs_table_changes.proofs.LeftSpans.{IsPart, StaysHere, every_outside, left_apart, left_count, left_means, left_runs}
use Rattle.rs_table_changes.proofs.Seeing.{gone_there, now_here, now_only, now_there, rest_fails, rest_there, source, split}

-- what this version sees, beside what live versions do
pub record RemovesHere (accepted version route lo hi : ℕ) (goes : Row → Bool) (count : ℕ) (old now : List Event) : Type 0 where
  pub elsewhere : (other : ℕ) → other ≢ route → IsPermutation (spans_at version other now) (spans_at accepted other old)
  pub facts : (kind : Kind) → AreRunsAt kind accepted route old → facts_at version route now ≡ without_rows lo hi goes (facts_at accepted route old)
  pub runs : (kind : Kind) → AreRunsAt kind accepted route old → AreRunsAt kind version route now
  pub within : (start finish : ℕ) → AllLieWithin start finish (spans_at accepted route old) → AllLieWithin start finish (spans_at version route now)
  pub counted : (kind : Kind) → AreRunsAt kind accepted route old → count ≡ going lo hi goes (facts_at accepted route old)

-- the event is one of those that are visible and whose rows go
abbrev pub is_one_gone : (version route lo hi : ℕ) (goes : Row → Bool) → Event → Bool
is_one_gone version route lo hi goes one = is_visible version route lo hi one && goes one.row

pub one_gone_on : (version route lo hi : ℕ) (goes : Row → Bool) (one : Event) → is_one_gone version route lo hi goes one ≡ true → is_on version route one ≡ true
one_gone_on version route lo hi goes one e =
    let visible = (and_parts (is_visible version route lo hi one) (goes one.row) e).0 in
    let parts = and_parts (one.route == route && (nat_lt one.lo hi && nat_lt lo one.hi)) (sees_event version one) visible in
    let rest = and_parts (one.route == route) (nat_lt one.lo hi && nat_lt lo one.hi) parts.0 in
    and_from (one.route == route) (sees_event version one) rest.0 parts.1

module _ (types : List ColumnType) (version route : ℕ) (below : version < LIVING) (accepted : ℕ) (before : accepted < version) (events now : List Event)
    (dated : AllByRecursion (IsDatedRecord (kept_events types) accepted) events)
    (level : (other : ℕ) → spans_at version other events ≡ spans_at accepted other events)
    (lo hi : ℕ) (goes : Row → Bool) where
  -- nothing goes where there is nothing between the ends
  pub nothing_removed : hi ≤ lo → RemovesHere accepted version route lo hi goes 0 events events
  nothing_removed none = record {
    elsewhere = λ other apart. subst (IsPermutation (spans_at version other events)) (level other) (IsPermutation-refl (spans_at version other events));
    facts = λ kind runs. ap places_of (level route) ∙ sym (without_rows-empty lo hi goes (facts_at accepted route events) none);
    runs = λ kind runs. subst (λ spans. AreAllRunsOf kind (places_of spans) spans) (sym (level route)) runs;
    within = λ start finish all. subst (AllLieWithin start finish) (sym (level route)) all;
    counted = λ kind runs. sym (going-empty lo hi goes (facts_at accepted route events) none);
  }

  abbrev pub is_gone : Event → Bool
  is_gone = is_one_gone version route lo hi goes

  abbrev seen_now : List Stretch
  seen_now = spans_at version route events

  gone_on : (one : Event) → is_gone one ≡ true → is_on version route one ≡ true
  gone_on one e = one_gone_on version route lo hi goes one e

  gone_goes : (one : Event) → is_gone one ≡ true → goes one.row ≡ true
  gone_goes one e = (and_parts (is_visible version route lo hi one) (goes one.row) e).1

  inside_gone : (one : Event) → is_on version route one ≡ true → goes one.row ≡ true → one.lo < hi → lo < one.hi → is_gone one ≡ true
  inside_gone one on go left right =
      let parts = and_parts (one.route == route) (sees_event version one) on in
      and_from (is_visible version route lo hi one) (goes one.row)
      (and_from (one.route == route && (nat_lt one.lo hi && nat_lt lo one.hi)) (sees_event version one)
      (and_from (one.route == route) (nat_lt one.lo hi && nat_lt lo one.hi) parts.0 (and_from (nat_lt one.lo hi) (nat_lt lo one.hi) (lt-ltb one.lo hi left) (lt-ltb lo one.hi right)))
      parts.1)
      go

  abbrev gone_spans : List Stretch
  gone_spans = map span_of (filter is_gone events)

  all_go : AllByRecursion (λ (s : Stretch). goes s.row ≡ true) gone_spans
  all_go = every-from_each (λ (s : Stretch). goes s.row ≡ true) gone_spans
      (λ s has. let from_one = source is_gone events s has in subst (λ (x : Stretch). goes x.row ≡ true) from_one.is (gone_goes from_one.one from_one.passes))

  module _ (some : lo < hi) (way : GivesWay types version route (filter is_gone events) (outside_all lo hi (map span_of (filter is_gone events))) events now) where
    abbrev rest : List Stretch
    rest = spans_at version route way.between

    abbrev left : List Stretch
    left = outside_all lo hi gone_spans

    are : IsPermutation seen_now (gone_spans ++ rest)
    are = split types version route below accepted before events now dated is_gone gone_on left way

    module _ (kind : Kind) (runs : AreRunsAt kind accepted route events) where
      runs_now : AreAllRunsOf kind (places_of seen_now) seen_now
      runs_now = subst (λ spans. AreAllRunsOf kind (places_of spans) spans) (sym (level route)) runs

      apart_now : AreApart kind seen_now
      apart_now = apart_of kind (places_of seen_now) seen_now runs_now

      all_placed : (spans : List Stretch) → AreApart kind spans → AllByRecursion (IsPlaced kind) spans
      all_placed [] apart = tt
      all_placed (x ∷ spans) apart = (apart.0, all_placed spans apart.2)

      stays_one : (s : Stretch) → Contains rest s → StaysHere lo hi goes kind s
      stays_one s has =
          let there = rest_there types version route below accepted before events now dated is_gone gone_on left way s has in
          let from_one = source (is_on version route) events s there in
          record {
            placed = each-at (IsPlaced kind) seen_now s (all_placed seen_now apart_now) there;
            off = λ go. elim (cases_lt lo s.hi) [
              | inr left_of ↦ inl left_of
              | inl reach ↦ elim (cases_lt s.lo hi) [
                | inr right_of ↦ inr right_of
                | inl too ↦ absurd (rest_fails types version route below accepted before events now dated is_gone gone_on left way (once_of_apart kind seen_now apart_now) from_one.one from_one.among
                    (inside_gone from_one.one from_one.passes (subst (λ (x : Stretch). goes x.row ≡ true) (sym from_one.is) go)
                    (subst (λ (x : Stretch). x.lo < hi) (sym from_one.is) too) (subst (λ (x : Stretch). lo < x.hi) (sym from_one.is) reach))
                    (subst (Contains rest) (sym from_one.is) has))
              ]
            ];
          }

      all_stay : AllByRecursion (StaysHere lo hi goes kind) rest
      all_stay = every-from_each (StaysHere lo hi goes kind) rest stays_one

      are_now : IsPermutation (spans_at version route now) (left ++ rest)
      are_now =
          now_here types version route below accepted before events now dated is_gone gone_on left way
          (once_of_apart kind (left ++ rest) (left_apart lo hi goes kind some seen_now gone_spans rest are runs_now all_go all_stay))

      pub facts_now : facts_at version route now ≡ without_rows lo hi goes (facts_at accepted route events)
      facts_now =
          places_of-permutation (spans_at version route now) (left ++ rest) are_now
          ∙ left_means lo hi goes kind some seen_now gone_spans rest are runs_now all_go all_stay
          ∙ ap (λ spans. without_rows lo hi goes (places_of spans)) (level route)

      pub are_runs : AreRunsAt kind version route now
      are_runs =
          runs_shuffled kind (left ++ rest) (spans_at version route now) (IsPermutation-sym (spans_at version route now) (left ++ rest) are_now)
          (left_runs lo hi goes kind some seen_now gone_spans rest are runs_now all_go all_stay)

      pub counted_now : going lo hi goes (facts_at accepted route events) ≡ shared_by lo hi gone_spans
      counted_now =
          sym (ap (λ spans. going lo hi goes (places_of spans)) (level route))
          ∙ left_count lo hi goes kind some seen_now gone_spans rest are runs_now all_go all_stay

    lies_part : (start finish : ℕ) (s part : Stretch) → IsPart s part → LiesWithin start finish s → LiesWithin start finish part
    lies_part start finish s part is lies = record { from = omega (arith, is.from, lies.from); upto = omega (arith, is.upto, lies.upto) }

    pub removed : (count : ℕ) → count ≡ shared_by lo hi gone_spans → RemovesHere accepted version route lo hi goes count events now
    removed count counted = record {
      elsewhere = λ other apart. subst (IsPermutation (spans_at version other now)) (level other)
          (now_there types version route below accepted before events now dated is_gone gone_on left way other apart);
      facts = λ kind runs. facts_now kind runs;
      runs = λ kind runs. are_runs kind runs;
      within = λ start finish all.
          let lie : AllLieWithin start finish seen_now = subst (AllLieWithin start finish) (sym (level route)) all in
          let gone_lie : AllLieWithin start finish gone_spans = every-from_each (LiesWithin start finish) gone_spans (λ s among.
          each-at (LiesWithin start finish) seen_now s lie (gone_there types version route below accepted before events now dated is_gone gone_on left way s among)) in
          let left_lie : AllLieWithin start finish left = every_outside lo hi (LiesWithin start finish) (LiesWithin start finish) gone_spans (lies_part start finish) gone_lie in
          every-from_each (LiesWithin start finish) (spans_at version route now) (λ s has.
          elim (now_only types version route below accepted before events now dated is_gone gone_on left way s has) [
            | inl came ↦ each-at (LiesWithin start finish) left s left_lie came
            | inr was ↦ each-at (LiesWithin start finish) seen_now s lie was
          ]);
      counted = λ kind runs. counted ∙ sym (counted_now kind runs);
    }

-- the events that go are those whose rows go among those that are visible
pub gone_are : (version route lo hi : ℕ) (goes : Row → Bool) (events : List Event) → passing goes (filter (is_visible version route lo hi) events)
    ≡ filter (is_one_gone version route lo hi goes) events
gone_are version route lo hi goes events = filter_both (is_visible version route lo hi) (λ (one : Event). goes one.row) events
