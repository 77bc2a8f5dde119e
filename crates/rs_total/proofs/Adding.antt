-- What a tally is after one more route.
use Rattle.std.proofs.Common.{◌≡◌, ℕ, zero, suc, ◌+◌, ◌-◌, ◌*◌, ◌^◌, ◌<◌, ◌≤◌, min, Bool, true, false, ◌&&◌, ◌||◌, cond, inl, inr, List, [], ◌∷◌, ◌++◌, length, Option, Some, None, is_some, unwrap_or, refl, sym, ap, ◌∙◌, subst, arith}
use Rattle.std.proofs.lemmas.Bool.{or_cases}
use Rattle.std.proofs.lemmas.Bool.{and_from, cases_lt}
use Rattle.std.proofs.lemmas.List.{length-append}
use Rattle.std.proofs.lemmas.List.Folds.{list_any-append}
use Rattle.std.proofs.lemmas.List.Sums.{sum_by_push}
use Rattle.std.specs.List.{list_any, sum_by, filter, fold}
use Rattle.rs_value.specs.declared.column.Kind.{Kind}
use Rattle.rs_value.specs.Row.{Row}
use Rattle.rs_facts.specs.Condition.{is_null}
use Rattle.rs_facts.specs.Operators.{datum_at}
use Rattle.rs_facts.specs.Fact.{RowSet, Places, items, thousandths}
use Rattle.rs_facts.specs.Insert.{within}
use Rattle.rs_facts.specs.Runs.{Stretch}
use Rattle.rs_facts.specs.Spans.{places_of}
use Rattle.rs_facts.specs.Totals.{Along, over_places, over_facts, length_of, is_of}
use Rattle.rs_facts.proofs.Counting.{thousandths-first}
use Rattle.rs_facts.proofs.Placing.{within-true}
use Rattle.rs_facts.proofs.RowSets.{any-places, any-same, passes-of, either-way}
use Rattle.rs_total.specs.declared.numbers.Numbers.{Numbers}
use Rattle.rs_total.specs.Counting.{no_numbers, kept_along}
use Rattle.rs_total.specs.Tally.{Tally, kept_of}
use Rattle.rs_total.specs.Totalling.{AreRunsAlong, AreTotalsOf, AreNumbersOf, AreSizes, has_group, counts, is_above, is_below}
use Rattle.rs_total.proofs.Sums.{amount_if}
use Rattle.rs_total.proofs.SpanSums.{AreSpans, amount_along, passes_at, reached, facts-spans, places-spans}
use Rattle.rs_total.proofs.RouteRuns.{AreItsSpans, spans-of_runs}
use Rattle.rs_total.proofs.Folding.{TakesAll, takes-all, numbers_with, few-amounts, few-reached, kept-numbers, kept-some}

-- ---- which groups have a fact

or_true : (t : Bool) → (t || true) ≡ true
or_true true = refl
or_true false = refl

or_false : (t : Bool) → (t || false) ≡ t
or_false true = refl
or_false false = refl

has_by : (p : ℕ → Bool) (k from to n : ℕ) → from + n ≡ to → from ≤ k → k < to → p k ≡ true → list_any p (thousandths from to) ≡ true
has_by p k from to zero e a b h = absurd (omega arith)
has_by p k from to (suc n) e a b h =
    ap (list_any p) (thousandths-first from to (omega arith))
    ∙ elim (cases_lt from k) [
      | inl less ↦ ap (λ t. p from || t) (has_by p k (suc from) to n (omega arith) (omega arith) b h) ∙ or_true (p from)
      | inr same ↦ let at : k ≡ from = omega arith in ap (λ t. t || list_any p (thousandths (suc from) to)) (sym (ap p at) ∙ h)
    ]

record HeldAt (test : Row → Bool) (from to : ℕ) (spans : List Stretch) : Type 0 where
  place : ℕ
  after : from ≤ place
  before : place < to
  passes : passes_at test place spans ≡ true

held_at : (test : Row → Bool) (from to : ℕ) (spans : List Stretch) → AreSpans from to spans → list_any (λ span. test span.row) spans ≡ true → HeldAt test from to spans
held_at test from to [] inside e = absurd (let wrong : false ≡ true = e in cc)
held_at test from to (span ∷ spans) inside e = elim (or_cases (test span.row) (list_any (λ s. test s.row) spans) e) [
  | inl here ↦ record {
    place = span.lo;
    after = inside.0.0;
    before = omega (arith, inside.0.1, inside.0.2);
    passes = ap (λ t. t || passes_at test span.lo spans) (and_from (within span.lo span.hi span.lo) (test span.row) (within-true span.lo span.hi span.lo (omega arith) inside.0.1) here);
  }
  | inr there ↦ let rest = held_at test from to spans inside.1 there in record {
    place = rest.place;
    after = rest.after;
    before = rest.before;
    passes = ap (λ t. (within span.lo span.hi rest.place && test span.row) || t) rest.passes ∙ or_true (within span.lo span.hi rest.place && test span.row);
  }
]

right_part : (a b : Bool) → (a && b) ≡ true → b ≡ true
right_part true b e = e
right_part false b e = absurd (let wrong : false ≡ true = e in cc)

route_has : (test : Row → Bool) (from to : ℕ) (spans : List Stretch) → AreSpans from to spans → list_any (λ k. list_any test (items (places_of spans k))) (thousandths from to) ≡ list_any (λ span. test span.row) spans
route_has test from to spans inside =
    any-same _ _ (thousandths from to) (any-places test spans)
    ∙ either-way _ _
    (λ e.
    let place = passes-of (λ k. passes_at test k spans) (thousandths from to) e in
    let span = passes-of (λ s. within s.lo s.hi place.one && test s.row) spans place.passes in
    span.again (λ s. test s.row) (right_part (within span.one.lo span.one.hi place.one) (test span.one.row) span.passes))
    (λ e.
    let held = held_at test from to spans inside e in
    has_by (λ k. passes_at test k spans) held.place from to (to - from) (omega (arith, held.after, held.before)) held.after held.before held.passes)

has-more : (by : List ℕ) (group : Row) (routes : List Along) (route : Along) (spans : List Stretch) → AreItsSpans route spans → has_group by group (routes ++ route ∷ []) ≡ (has_group by group routes || list_any (λ span. is_of by group span.row) spans)
unfolding has_group
has-more by group routes route spans its =
    list_any-append (λ r. list_any (λ k. list_any (is_of by group) (items (r.places k))) (thousandths r.from r.to)) routes (route ∷ [])
    ∙ ap (λ t. has_group by group routes || t) (or_false (list_any (λ k. list_any (is_of by group) (items (route.places k))) (thousandths route.from route.to))
    ∙ ap (λ (places : Places). list_any (λ k. list_any (is_of by group) (items (places k))) (thousandths route.from route.to)) (sym its.rows)
    ∙ route_has (is_of by group) route.from route.to spans its.inside)

-- ---- numbers

over-more : (amount : RowSet → ℕ) (routes : List Along) (route : Along) (spans : List Stretch) → places_of spans ≡ route.places → over_places amount (routes ++ route ∷ []) ≡ over_places amount routes + sum_by (λ k. amount (places_of spans k)) (thousandths route.from route.to)
unfolding over_places
over-more amount routes route spans rows =
    sum_by_push (λ r. sum_by (λ k. amount (r.places k)) (thousandths r.from r.to)) routes route
    ∙ ap (λ (places : Places). over_places amount routes + sum_by (λ k. amount (places k)) (thousandths route.from route.to)) (sym rows)

facts-more : (by : List ℕ) (group : Row) (amount : Row → ℕ) (routes : List Along) (route : Along) (spans : List Stretch) → AreItsSpans route spans → over_facts by group amount (routes ++ route ∷ []) ≡ over_facts by group amount routes + sum_by (amount_along (amount_if (is_of by group) amount)) spans
unfolding over_facts
facts-more by group amount routes route spans its =
    over-more (λ rows. sum_by amount (filter (is_of by group) (items rows))) routes route spans its.rows
    ∙ ap (λ n. over_facts by group amount routes + n) (facts-spans (is_of by group) amount route.from route.to spans its.inside its.free)

length-more : (by : List ℕ) (group : Row) (routes : List Along) (route : Along) (spans : List Stretch) → AreItsSpans route spans → length_of by group (routes ++ route ∷ []) ≡ length_of by group routes + reached (is_of by group) 0 spans
length-more by group routes route spans its =
    over-more (λ rows. cond (list_any (is_of by group) (items rows)) 1 0) routes route spans its.rows
    ∙ ap (λ n. length_of by group routes + n) (places-spans (is_of by group) route.from route.to spans its.inside its.follow)

at_most_one : (column : Option ℕ) (row : Row) → counts column row ≤ 1
at_most_one None row = omega arith
at_most_one (Some column) row = elim (is_null (datum_at row column)) as (λ t. cond t 0 1 ≤ 1) [ true ↦ omega arith | false ↦ omega arith ]

same_sizes : (a b c d : ℕ) (n : Numbers) → a ≡ c → b ≡ d → AreSizes a b n.sizes → AreSizes c d n.sizes
same_sizes a b c d n e f h = subst (λ x. AreSizes x d n.sizes) e (subst (λ y. AreSizes a y n.sizes) f h)

numbers-more : (by : List ℕ) (column : Option ℕ) (group : Row) (routes : List Along) (route : Along) (spans : List Stretch) (old new : Numbers)
    → length routes < 2 ^ 31 → route.to < 2 ^ 32 → length spans < 2 ^ 64 → AreItsSpans route spans → TakesAll (is_of by group) (length routes * 2 ^ 32) column spans route.to old new
    → AreNumbersOf by column group routes old → AreNumbersOf by column group (routes ++ route ∷ []) new
numbers-more by column group routes route spans old new few short count its takes was =
    let long = length-append routes (route ∷ []) in
    let fresh : old.reach - length routes * 2 ^ 32 ≡ 0 = omega (arith, was.reached) in
    let new_places : reached (is_of by group) (old.reach - length routes * 2 ^ 32) spans ≡ reached (is_of by group) 0 spans = ap (λ r. reached (is_of by group) r spans) fresh in
    let few_new = few-reached (is_of by group) (length routes * 2 ^ 32) column route.from route.to spans its.inside short 0 in
    let few_facts = few-amounts (is_of by group) (length routes * 2 ^ 32) column (counts column) (at_most_one column) route.from route.to spans its.inside short in
    let places : new.places ≡ old.places + reached (is_of by group) 0 spans = takes.places (omega (arith, was.few_places, few_new, new_places, few, count)) ∙ ap (λ n. old.places + n) new_places in
    let weight : new.weight ≡ old.weight + sum_by (amount_along (amount_if (is_of by group) (counts column))) spans = takes.weight (omega (arith, was.few_facts, few_facts, few, count)) in
    record {
      places = places ∙ ap (λ n. n + reached (is_of by group) 0 spans) was.places ∙ sym (length-more by group routes route spans its);
      weight = weight ∙ ap (λ n. n + sum_by (amount_along (amount_if (is_of by group) (counts column))) spans) was.weight ∙ sym (facts-more by group (counts column) routes route spans its);
      sizes = same_sizes _ _ _ _ new (sym (facts-more by group (is_above column) routes route spans its)) (sym (facts-more by group (is_below column) routes route spans its)) (takes.sizes _ _ was.sizes);
      reached = omega (arith, long, takes.reach, was.reached, short);
      few_places = omega (arith, long, places, was.few_places, few_new, count);
      few_facts = omega (arith, long, weight, was.few_facts, few_facts, count);
    }

-- A tally whose groups took the spans of a route, and which begins the next one after it.
pub tally-more : (kind : Kind) (by : List ℕ) (column : Option ℕ) (routes : List Along) (route : Along) (spans : List Stretch) (old new : Tally) → length spans < 2 ^ 64
    → new.by ≡ old.by → new.summed ≡ old.summed → new.start ≡ min (old.start + 2 ^ 32) (2 ^ 64 - 1)
    → ((group : Row) → kept_of new.groups group ≡ kept_along old.by old.summed old.start group (kept_of old.groups group) spans)
    → length routes < 2 ^ 31 → AreTotalsOf by column routes old → AreRunsAlong kind route spans → AreTotalsOf by column (routes ++ route ∷ []) new
tally-more kind by column routes route spans old new count same_by same_column start kept few was runs =
    let its = spans-of_runs kind route spans runs in
    let long = length-append routes (route ∷ []) in
    let after : (group : Row) → kept_of new.groups group ≡ kept_along by column (length routes * 2 ^ 32) group (kept_of old.groups group) spans =
    λ group. kept group ∙ (λ i. kept_along (was.by_those i) (was.sums_that i) (was.starts_next i) group (kept_of old.groups group) spans) in
    record {
      by_those = same_by ∙ was.by_those;
      sums_that = same_column ∙ was.sums_that;
      starts_next = omega (arith, start, was.starts_next, few, long);
      groups = λ group. ap is_some (after group) ∙ kept-some by column (length routes * 2 ^ 32) group (kept_of old.groups group) spans
          ∙ ap (λ t. t || list_any (λ span. is_of by group span.row) spans) (was.groups group) ∙ sym (has-more by group routes route spans its);
      numbers = λ group.
          let is : fold (numbers_with (is_of by group) (length routes * 2 ^ 32) column) (unwrap_or (kept_of old.groups group) no_numbers) spans ≡ unwrap_or (kept_of new.groups group) no_numbers =
          sym (ap (λ o. unwrap_or o no_numbers) (after group) ∙ kept-numbers by column (length routes * 2 ^ 32) group (kept_of old.groups group) spans) in
          subst (AreNumbersOf by column group (routes ++ route ∷ [])) is
          (numbers-more by column group routes route spans (unwrap_or (kept_of old.groups group) no_numbers) _ few runs.short count its
          (takes-all (is_of by group) (length routes * 2 ^ 32) column route.from route.to spans (unwrap_or (kept_of old.groups group) no_numbers) its.inside (omega (arith, few, runs.short)))
          (was.numbers group));
    }

no_group : (by : List ℕ) (group : Row) → has_group by group [] ≡ false
unfolding has_group
no_group by group = refl

no_places : (amount : RowSet → ℕ) → over_places amount [] ≡ 0
unfolding over_places
no_places amount = refl

none_over : (by : List ℕ) (group : Row) (amount : Row → ℕ) → over_facts by group amount [] ≡ 0
unfolding over_facts
none_over by group amount = no_places (λ rows. sum_by amount (filter (is_of by group) (items rows)))

no_facts : (by : List ℕ) (column : Option ℕ) (group : Row) → AreNumbersOf by column group [] no_numbers
no_facts by column group =
    let above_none = none_over by group (is_above column) in
    let below_none = none_over by group (is_below column) in
    record {
      places = sym (no_places (λ rows. cond (list_any (is_of by group) (items rows)) 1 0));
      weight = sym (none_over by group (counts column));
      sizes = (sym above_none, sym below_none, omega (arith, above_none, below_none));
      reached = omega arith;
      few_places = omega arith;
      few_facts = omega arith;
    }

-- A tally without groups is that of no routes.
pub tally-none : (by : List ℕ) (column : Option ℕ) (tally : Tally) → tally.by ≡ by → tally.summed ≡ column → tally.start ≡ 0 → tally.groups ≡ [] → AreTotalsOf by column [] tally
tally-none by column tally same_by same_column start none = record {
  by_those = same_by;
  sums_that = same_column;
  starts_next = start;
  groups = λ group. ap (λ groups. is_some (kept_of groups group)) none ∙ sym (no_group by group);
  numbers = λ group. subst (AreNumbersOf by column group []) (sym (ap (λ groups. unwrap_or (kept_of groups group) no_numbers) none)) (no_facts by column group);
}
