-- What a piece of an alignment carries to a thousandth: the rows of the one place that is carried there.
use Rattle.std.proofs.Common.{◌≡◌, ℕ, zero, suc, ◌+◌, ◌-◌, ◌<◌, ◌≤◌, Bool, true, false, ◌&&◌, ◌||◌, cond, eqb, List, [], flat_map, inl, inr, refl, sym, ap, ◌∙◌, subst, arith}
use Rattle.std.proofs.lemmas.Bool.{or_cases, and_parts, and_from, eqb-true, eq-eqb, ltb-true, ltb-false}
use Rattle.std.specs.List.{list_any, range_with_len}
use Rattle.std.specs.Prelude.{nat_lt}
use Rattle.rs_value.specs.Row.{Row}
use Rattle.rs_facts.specs.Fact.{RowSet, contains, items, Places, thousandths}
use Rattle.rs_facts.specs.Insert.{within}
use Rattle.rs_facts.specs.Operators.{carried}
use Rattle.rs_facts.specs.OperatorLaws as laws
use Rattle.rs_facts.specs.OperatorLaws.{IsCarried}
use Rattle.rs_facts.proofs.Placing.{within-true, within-bounds}
use Rattle.rs_facts.proofs.Rows.{same_row}
use Rattle.rs_facts.proofs.RowSets.{any-flat_map, any-same, either-way, contains-items, contains-from_rows}

-- a number from one on and below another that passes
record Passing (test : ℕ → Bool) (from to : ℕ) : Type 0 where
  k : ℕ
  after : from ≤ k
  before : k < to
  passes : test k ≡ true

passing : (test : ℕ → Bool) (from n : ℕ) → list_any test (range_with_len from n) ≡ true → Passing test from (from + n)
passing test from zero e = absurd (let wrong : false ≡ true = e in cc)
passing test from (suc n) e = elim (or_cases (test from) (list_any test (range_with_len (from + 1) n)) e) [
  | inl here ↦ record { k = from; after = omega arith; before = omega arith; passes = here }
  | inr there ↦
      let rest = passing test (from + 1) n there in
      let a = rest.after in let b = rest.before in
      record { k = rest.k; after = omega (arith, a); before = omega (arith, b); passes = rest.passes }
]

or_right : (a b : Bool) → b ≡ true → (a || b) ≡ true
or_right true b e = refl
or_right false b e = e

passed : (test : ℕ → Bool) (from n k : ℕ) → from ≤ k → k < from + n → test k ≡ true → list_any test (range_with_len from n) ≡ true
passed test from zero k a b p = absurd (omega (arith, a, b))
passed test from (suc n) k a b p = elim (nat_lt from k) as (λ t. nat_lt from k ≡ t → list_any test (range_with_len from (suc n)) ≡ true) [
  | true ↦ λ e. let l = ltb-true from k e in or_right (test from) (list_any test (range_with_len (from + 1) n)) (passed test (from + 1) n k (omega (arith, l)) (omega (arith, b)) p)
  | false ↦ λ e. let l = ltb-false from k e in let same : from ≡ k = omega (arith, a, l) in ap (λ t. t || list_any test (range_with_len (from + 1) n)) (ap test same ∙ p)
] refl

-- the rows of a set, if the test holds
chosen_rows : (test : Bool) (rows : RowSet) (row : Row) → list_any (λ other. same_row other row) (cond test (items rows) []) ≡ (test && contains rows row)
chosen_rows true rows row = sym (contains-items rows row)
chosen_rows false rows row = refl

pub contains-carried : (from to onto : ℕ) (places : Places) (j : ℕ) (row : Row) → contains (carried from to onto places j) row ≡ (within onto (onto + (to - from)) j && contains (places (from + (j - onto))) row)
unfolding carried thousandths
contains-carried from to onto places j row =
    contains-from_rows (flat_map rows (range_with_len from (to - from))) row
    ∙ any-flat_map (λ other. same_row other row) rows (range_with_len from (to - from))
    ∙ any-same _ _ (range_with_len from (to - from)) (λ k. chosen_rows (eqb (onto + (k - from)) j) (places k) row)
    ∙ either-way _ _
    (λ e.
    let h = passing test from (to - from) e in
    let parts = and_parts (eqb (onto + (h.k - from)) j) (contains (places h.k) row) h.passes in
    let is = eqb-true (onto + (h.k - from)) j parts.0 in
    let a = h.after in let b = h.before in
    let same : h.k ≡ from + (j - onto) = omega (arith, is, a) in
    and_from (within onto (onto + (to - from)) j) (contains (places (from + (j - onto))) row) (within-true onto (onto + (to - from)) j (omega (arith, is)) (omega (arith, is, a, b)))
    (subst (λ k. contains (places k) row ≡ true) same parts.1))
    (λ e.
    let parts = and_parts (within onto (onto + (to - from)) j) (contains (places (from + (j - onto))) row) e in
    let bounds = within-bounds onto (onto + (to - from)) j parts.0 in
    let a = bounds.0 in let b = bounds.1 in
    passed test from (to - from) (from + (j - onto)) (omega arith) (omega (arith, a, b))
    (and_from (eqb (onto + (from + (j - onto) - from)) j) (contains (places (from + (j - onto))) row) (eq-eqb (onto + (from + (j - onto) - from)) j (omega (arith, a))) parts.1))
  where
    rows : ℕ → List Row
    rows k = cond (eqb (onto + (k - from)) j) (items (places k)) []

    test : ℕ → Bool
    test k = eqb (onto + (k - from)) j && contains (places k) row

pub carried-rows : laws.CarriedRowsAreThose
carried-rows from to onto places j row = (
  λ e.
      let parts = and_parts (within onto (onto + (to - from)) j) (contains (places (from + (j - onto))) row) (sym (contains-carried from to onto places j row) ∙ e) in
      let bounds = within-bounds onto (onto + (to - from)) j parts.0 in
      let a = bounds.0 in let b = bounds.1 in
      record { k = from + (j - onto); after = omega arith; before = omega (arith, a, b); among = parts.1; there = omega (arith, a) },
  λ h.
      let a = h.after in let b = h.before in let is = h.there in
      let same : h.k ≡ from + (j - onto) = omega (arith, is, a) in
      contains-carried from to onto places j row
      ∙ and_from (within onto (onto + (to - from)) j) (contains (places (from + (j - onto))) row) (within-true onto (onto + (to - from)) j (omega (arith, is)) (omega (arith, is, a, b)))
      (subst (λ k. contains (places k) row ≡ true) same h.among),
)
