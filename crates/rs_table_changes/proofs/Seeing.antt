-- What a version sees on a route and on the others once the events that pass a test have given way.
use Rattle.std.proofs.Common.{◌≡◌, ◌≢◌, ◌<◌, ◌==◌, ◌&&◌, ◌⊎◌, ℕ, zero, suc, Bool, true, false, not, cond, nat_le, nat_lt, inl, inr, List, [], ◌∷◌, ◌++◌, map, filter, refl, sym, ◌∙◌, arith}
use Rattle.std.proofs.lemmas.Bool.{and_parts, eqb-true, leb-true, ltb-true}
use Rattle.std.proofs.lemmas.List.Elements.{Contains-append_left, Contains-append_right}
use Rattle.std.proofs.lemmas.List.Sorted.{Contains-permutation, IsPermutation-filter_both, IsPermutation-sym, IsPermutation-trans}
use Rattle.std.specs.List.{AllByRecursion, Contains}
use Rattle.std.specs.List.Sorted.{IsPermutation}
use Rattle.rs_cell_versions.specs.declared.cell.TheConstants.{LIVING}
use Rattle.rs_facts.specs.Runs.{Stretch}
use Rattle.rs_facts.specs.Spans.{AreOnce}
use Rattle.rs_value.specs.declared.column.ColumnType.{ColumnType}
use Rattle.rs_versioned.specs.Events.{Event, is_on, kept_events, span_of, spans_at}
use Rattle.rs_versioned.proofs.Present.{IsDatedRecord}
use Rattle.rs_versioned.proofs.SameRuns.{once_shuffled}
use Rattle.rs_table_changes.specs.Chains.{GivesWay}
use Rattle.rs_table_changes.proofs.GiveWay.{IsSeenHere, came_here, came_only, came_there, ended_here, ended_there}
use Rattle.rs_table_changes.proofs.Shown.{kept_has}

-- what passes a test and was so is so
pub all_kept : (P Q : Event → Type 0) (q : Event → Bool) → ((one : Event) → P one → q one ≡ true → Q one) → (xs : List Event) → AllByRecursion P xs → AllByRecursion Q (filter q xs)
all_kept P Q q then [] all = tt
all_kept P Q q then (x ∷ xs) all = by (q x) refl (all_kept P Q q then xs all.1) where
  by : (b : Bool) → q x ≡ b → AllByRecursion Q (filter q xs) → AllByRecursion Q (cond b (x ∷ filter q xs) (filter q xs))
  by true e rest = (then x all.0 e, rest)
  by false e rest = rest

-- a span that is listed is that of an event that passes
pub record Source (q : Event → Bool) (xs : List Event) (span : Stretch) : Type 0 where
  pub one : Event
  pub among : Contains xs one
  pub passes : q one ≡ true
  pub is : span_of one ≡ span

pub source : (q : Event → Bool) (xs : List Event) (span : Stretch) → Contains (map span_of (filter q xs)) span → Source q xs span
source q [] span has = absurd (omega (arith, has.1))
source q (x ∷ xs) span has = source_next (q x) q x xs span refl has (source q xs span)
  where
    source_next : (b : Bool) (q : Event → Bool) (x : Event) (xs : List Event) (span : Stretch) → q x ≡ b → Contains (map span_of (cond b (x ∷ filter q xs) (filter q xs))) span
        → (Contains (map span_of (filter q xs)) span → Source q xs span) → Source q (x ∷ xs) span
    source_next true q x xs span e (zero, inside, is) more = record { one = x; among = (0, omega arith, refl); passes = e; is = is }
    source_next true q x xs span e (suc k, inside, is) more =
        let rest = more (k, omega arith, is) in
        record { one = rest.one; among = (suc rest.among.0, omega (arith, rest.among.1), rest.among.2); passes = rest.passes; is = rest.is }
    source_next false q x xs span e has more =
        let rest = more has in
        record { one = rest.one; among = (suc rest.among.0, omega (arith, rest.among.1), rest.among.2); passes = rest.passes; is = rest.is }

same_number : (a b : ℕ) → (a == b) ≡ true → a ≡ b
same_number a b e = eqb-true a b e

module _ (types : List ColumnType) (version route : ℕ) (below : version < LIVING) (accepted : ℕ) (before : accepted < version) (events now : List Event)
    (dated : AllByRecursion (IsDatedRecord (kept_events types) accepted) events) (q : Event → Bool) (on : (one : Event) → q one ≡ true → is_on version route one ≡ true)
    (come : List Stretch) (way : GivesWay types version route (filter q events) come events now) where
  gone : List Event
  gone = filter q events

  seen_one : (one : Event) → IsDatedRecord (kept_events types) accepted one → q one ≡ true → IsSeenHere types version route below one
  seen_one one is passes =
      let parts = and_parts (one.route == route) (nat_le one.born version && nat_lt version one.died) (on one passes) in
      let ends = and_parts (nat_le one.born version) (nat_lt version one.died) parts.1 in
      let later = ltb-true version one.died ends.1 in
      record {
        on = same_number one.route route parts.0;
        lives = elim is.1 [ inl lives ↦ lives | inr died ↦ absurd (omega (arith, died.1, later, before)) ];
        born = leb-true one.born version ends.0;
      }

  seen_all : AllByRecursion (IsSeenHere types version route below) (filter q events)
  seen_all = all_kept (IsDatedRecord (kept_events types) accepted) (IsSeenHere types version route below) q seen_one events dated

  parted : IsPermutation events (filter q events ++ filter (λ one. not (q one)) events)
  parted = IsPermutation-filter_both q (λ one. not (q one)) (λ _. refl) events

  -- the spans of those that went, and the others
  pub split : IsPermutation (spans_at version route events) (map span_of (filter q events) ++ spans_at version route way.between)
  split = ended_here types version route below (filter q events) (filter (λ one. not (q one)) events) events way.between way.ended parted seen_all

  pub rest_there : (s : Stretch) → Contains (spans_at version route way.between) s → Contains (spans_at version route events) s
  rest_there s has =
      Contains-permutation (map span_of (filter q events) ++ spans_at version route way.between) (spans_at version route events) s
      (IsPermutation-sym (spans_at version route events) (map span_of (filter q events) ++ spans_at version route way.between) split)
      (Contains-append_right (map span_of (filter q events)) (spans_at version route way.between) s has)

  pub gone_there : (s : Stretch) → Contains (map span_of (filter q events)) s → Contains (spans_at version route events) s
  gone_there s has =
      Contains-permutation (map span_of (filter q events) ++ spans_at version route way.between) (spans_at version route events) s
      (IsPermutation-sym (spans_at version route events) (map span_of (filter q events) ++ spans_at version route way.between) split)
      (Contains-append_left (map span_of (filter q events)) (spans_at version route way.between) s has)

  -- where each span is there once, none of the others is one of those that went
  apart_once : (xs ys : List Stretch) (s : Stretch) → AreOnce (xs ++ ys) → Contains xs s → Contains ys s → ⊥
  apart_once [] ys s once in_xs in_ys = omega (arith, in_xs.1)
  apart_once (x ∷ xs) ys s once (zero, inside, is) in_ys = not_later (xs ++ ys) once.0 (Contains-append_right xs ys s in_ys) where
    not_later : (zs : List Stretch) → AllByRecursion (λ other. x ≢ other) zs → Contains zs s → ⊥
    not_later [] all has = omega (arith, has.1)
    not_later (z ∷ zs) all (zero, within, same) = all.0 (is ∙ sym same)
    not_later (z ∷ zs) all (suc k, within, same) = not_later zs all.1 (k, omega arith, same)
  apart_once (x ∷ xs) ys s once (suc k, inside, is) in_ys = apart_once xs ys s once.1 (k, omega arith, is) in_ys

  pub rest_fails : AreOnce (spans_at version route events) → (one : Event) → Contains events one → q one ≡ true → Contains (spans_at version route way.between) (span_of one) → ⊥
  rest_fails once one among passes has =
      apart_once (map span_of (filter q events)) (spans_at version route way.between) (span_of one)
      (once_shuffled (spans_at version route events) (map span_of (filter q events) ++ spans_at version route way.between) split once)
      (kept_has q events one passes among) has

  pub now_here : AreOnce (come ++ spans_at version route way.between) → IsPermutation (spans_at version route now) (come ++ spans_at version route way.between)
  now_here once = came_here types version route below come way.between now way.came once

  pub now_there : (other : ℕ) → other ≢ route → IsPermutation (spans_at version other now) (spans_at version other events)
  now_there other apart =
      IsPermutation-trans (spans_at version other now) (spans_at version other way.between) (spans_at version other events)
      (came_there types version route below come way.between now way.came other apart)
      (ended_there types version route below (filter q events) events way.between way.ended seen_all other apart)

  pub now_only : (s : Stretch) → Contains (spans_at version route now) s → Contains come s ⊎ Contains (spans_at version route events) s
  now_only s has = elim (came_only types version route below come way.between now way.came s has) [
    | inl came ↦ inl came
    | inr was ↦ inr (rest_there s was)
  ]
