-- Counting over thousandths: at how many a row does not hold yet.
use Rattle.std.proofs.Common.{◌≡◌, ℕ, zero, suc, ◌+◌, ◌-◌, ◌<◌, ◌≤◌, min, max, Bool, true, false, not, cond, ◌⊎◌, inl, inr, [], ◌∷◌, ◌++◌, sym, ap, ◌∙◌, arith}
use Rattle.std.proofs.lemmas.List.Sums.{sum_by-append, sum_by-cons}
use Rattle.std.specs.List.{count_by, range_with_len}
use Rattle.rs_value.specs.Row.{Row}
use Rattle.rs_facts.specs.Fact.{none, contains, Places, thousandths}
use Rattle.rs_facts.specs.Insert.{with_row, missing}
use Rattle.rs_facts.proofs.Sets.{contains-none}
use Rattle.rs_facts.proofs.Placing.{cases_within, with_row-inside, with_row-outside, with_row-other}

-- ---- thousandths

pub thousandths-empty : (from to : ℕ) → to ≤ from → thousandths from to ≡ []
unfolding thousandths
thousandths-empty from to h = let e : to - from ≡ 0 = omega arith in ap (range_with_len from) e

pub thousandths-first : (from to : ℕ) → from < to → thousandths from to ≡ from ∷ thousandths (suc from) to
unfolding thousandths
thousandths-first from to h =
    let e : to - from ≡ suc (to - suc from) = omega arith in
    let next : from + 1 ≡ suc from = omega arith in
    ap (range_with_len from) e ∙ ap (λ n. from ∷ range_with_len n (to - suc from)) next

split_by : (from middle to n : ℕ) → from + n ≡ middle → middle ≤ to → thousandths from to ≡ thousandths from middle ++ thousandths middle to
split_by from middle to zero e h =
    let same : from ≡ middle = omega arith in
    ap (λ m. thousandths m to) same ∙ sym (ap (λ xs. xs ++ thousandths middle to) (thousandths-empty from middle (omega arith)))
split_by from middle to (suc n) e h =
    thousandths-first from to (omega arith)
    ∙ ap (λ xs. from ∷ xs) (split_by (suc from) middle to n (omega arith) h)
    ∙ sym (ap (λ xs. xs ++ thousandths middle to) (thousandths-first from middle (omega arith)))

pub thousandths-split : (from middle to : ℕ) → from ≤ middle → middle ≤ to → thousandths from to ≡ thousandths from middle ++ thousandths middle to
thousandths-split from middle to a b = split_by from middle to (middle - from) (omega arith) b

-- ---- counts

pub count-split : (p : ℕ → Bool) (from middle to : ℕ) → from ≤ middle → middle ≤ to → count_by p (thousandths from to) ≡ count_by p (thousandths from middle) + count_by p (thousandths middle to)
count-split p from middle to a b = ap (count_by p) (thousandths-split from middle to a b) ∙ sum_by-append (λ k. cond (p k) 1 0) (thousandths from middle) (thousandths middle to)

pub count-empty : (p : ℕ → Bool) (from to : ℕ) → to ≤ from → count_by p (thousandths from to) ≡ 0
count-empty p from to h = ap (count_by p) (thousandths-empty from to h)

pub count-first : (p : ℕ → Bool) (from to : ℕ) → from < to → count_by p (thousandths from to) ≡ cond (p from) 1 0 + count_by p (thousandths (suc from) to)
count-first p from to h = ap (count_by p) (thousandths-first from to h) ∙ sum_by-cons (λ k. cond (p k) 1 0) from (thousandths (suc from) to)

agree_by : (p q : ℕ → Bool) (from to n : ℕ) → from + n ≡ to → ((k : ℕ) → from ≤ k → k < to → p k ≡ q k) → count_by p (thousandths from to) ≡ count_by q (thousandths from to)
agree_by p q from to zero e h = count-empty p from to (omega arith) ∙ sym (count-empty q from to (omega arith))
agree_by p q from to (suc n) e h =
    count-first p from to (omega arith)
    ∙ ap (λ b. cond b 1 0 + count_by p (thousandths (suc from) to)) (h from (omega arith) (omega arith))
    ∙ ap (λ m. cond (q from) 1 0 + m) (agree_by p q (suc from) to n (omega arith) (λ k a b. h k (omega arith) b))
    ∙ sym (count-first q from to (omega arith))

-- two tests that agree along the span count alike
pub count-agree : (p q : ℕ → Bool) (from to : ℕ) → ((k : ℕ) → from ≤ k → k < to → p k ≡ q k) → count_by p (thousandths from to) ≡ count_by q (thousandths from to)
count-agree p q from to h = elim (less_or from to) [
  | inl a ↦ agree_by p q from to (to - from) (omega arith) h
  | inr b ↦ count-empty p from to b ∙ sym (count-empty q from to b)
]
  where
    less_or : (a b : ℕ) → (a ≤ b) ⊎ (b ≤ a)
    less_or a b = elim (cases_within a (suc a) b) [ inl w ↦ inl w.1 | inr w ↦ elim w.1 [ inl x ↦ inr (omega arith) | inr x ↦ inl (omega arith) ] ]

none_by : (from to n : ℕ) → from + n ≡ to → count_by (λ k. false) (thousandths from to) ≡ 0
none_by from to zero e = count-empty (λ k. false) from to (omega arith)
none_by from to (suc n) e = count-first (λ k. false) from to (omega arith) ∙ ap (λ m. 0 + m) (none_by (suc from) to n (omega arith))

all_by : (from to n : ℕ) → from + n ≡ to → count_by (λ k. true) (thousandths from to) ≡ n
all_by from to zero e = count-empty (λ k. true) from to (omega arith)
all_by from to (suc n) e = count-first (λ k. true) from to (omega arith) ∙ ap (λ m. 1 + m) (all_by (suc from) to n (omega arith)) ∙ omega arith

pub count-none : (p : ℕ → Bool) (from to : ℕ) → from ≤ to → ((k : ℕ) → from ≤ k → k < to → p k ≡ false) → count_by p (thousandths from to) ≡ 0
count-none p from to l h = count-agree p (λ k. false) from to h ∙ none_by from to (to - from) (omega arith)

pub count-all : (p : ℕ → Bool) (from to : ℕ) → from ≤ to → ((k : ℕ) → from ≤ k → k < to → p k ≡ true) → count_by p (thousandths from to) ≡ to - from
count-all p from to l h = count-agree p (λ k. true) from to h ∙ all_by from to (to - from) (omega arith)

-- ---- at how many thousandths the row does not hold yet

pub missing-empty : (from to : ℕ) (row : Row) (places : Places) → to ≤ from → missing from to row places ≡ 0
unfolding missing
missing-empty from to row places h = count-empty (λ k. not (contains (places k) row)) from to h

pub missing-split : (from middle to : ℕ) (row : Row) (places : Places) → from ≤ middle → middle ≤ to → missing from to row places ≡ missing from middle row places + missing middle to row places
unfolding missing
missing-split from middle to row places a b = count-split (λ k. not (contains (places k) row)) from middle to a b

-- where the row holds at none
pub missing-all : (from to : ℕ) (row : Row) (places : Places) → from ≤ to → ((k : ℕ) → from ≤ k → k < to → contains (places k) row ≡ false) → missing from to row places ≡ to - from
unfolding missing
missing-all from to row places l h = count-all (λ k. not (contains (places k) row)) from to l (λ k a b. ap not (h k a b))

-- where it holds at all
pub missing-none : (from to : ℕ) (row : Row) (places : Places) → from ≤ to → ((k : ℕ) → from ≤ k → k < to → contains (places k) row ≡ true) → missing from to row places ≡ 0
unfolding missing
missing-none from to row places l h = count-none (λ k. not (contains (places k) row)) from to l (λ k a b. ap not (h k a b))

-- where two agree on the row
pub missing-agree : (from to : ℕ) (row : Row) (p q : Places) → ((k : ℕ) → from ≤ k → k < to → contains (p k) row ≡ contains (q k) row) → missing from to row p ≡ missing from to row q
unfolding missing
missing-agree from to row p q h = count-agree (λ k. not (contains (p k) row)) (λ k. not (contains (q k) row)) from to (λ k a b. ap not (h k a b))

pub missing-nothing : (from to : ℕ) (row : Row) → from ≤ to → missing from to row (λ k. none) ≡ to - from
missing-nothing from to row l = missing-all from to row (λ k. none) l (λ k a b. contains-none row)

-- another row's span takes nothing away
pub missing-other : (from to : ℕ) (row : Row) (lo hi : ℕ) (other : Row) (places : Places) → (other ≡ row → ⊥) → missing from to row (with_row lo hi other places) ≡ missing from to row places
missing-other from to row lo hi other places apart = missing-agree from to row (with_row lo hi other places) places (λ k a b. with_row-other lo hi other places k row apart)

-- how many thousandths two spans share
abbrev pub overlap : ℕ → ℕ → ℕ → ℕ → ℕ
overlap from to lo hi = min to hi - max from lo

-- a span of the row, where it did not hold, takes away what it shares
pub missing-apart : (from to : ℕ) (row : Row) (lo hi : ℕ) (places : Places) → from ≤ to → ((k : ℕ) → lo ≤ k → k < hi → contains (places k) row ≡ false) → missing from to row (with_row lo hi row places) + overlap from to lo hi ≡ missing from to row places
missing-apart from to row lo hi places l free = elim (shared from to lo hi) [
  | inl none_shared ↦
      let nothing : overlap from to lo hi ≡ 0 = omega (arith, none_shared) in
      let same : missing from to row (with_row lo hi row places) ≡ missing from to row places = missing-agree from to row (with_row lo hi row places) places (λ k a b. with_row-outside lo hi row places k row (elim (cases_within lo hi k) [ inl w ↦ absurd (omega (arith, none_shared)) | inr w ↦ w.1 ])) in
      omega (arith, nothing, same)
  | inr some ↦
      let a1 = missing-split from (max from lo) to row (with_row lo hi row places) (omega arith) (omega (arith, some)) in
      let a2 = missing-split (max from lo) (min to hi) to row (with_row lo hi row places) (omega (arith, some)) (omega arith) in
      let b1 = missing-split from (max from lo) to row places (omega arith) (omega (arith, some)) in
      let b2 = missing-split (max from lo) (min to hi) to row places (omega (arith, some)) (omega arith) in
      let e1 = missing-agree from (max from lo) row (with_row lo hi row places) places (λ k a b. with_row-outside lo hi row places k row (elim (cases_within lo hi k) [ inl w ↦ absurd (omega arith) | inr w ↦ w.1 ])) in
      let e2 = missing-agree (min to hi) to row (with_row lo hi row places) places (λ k a b. with_row-outside lo hi row places k row (elim (cases_within lo hi k) [ inl w ↦ absurd (omega arith) | inr w ↦ w.1 ])) in
      let full = missing-none (max from lo) (min to hi) row (with_row lo hi row places) (omega (arith, some)) (λ k a b. with_row-inside lo hi row places k (omega arith) (omega arith)) in
      let bare = missing-all (max from lo) (min to hi) row places (omega (arith, some)) (λ k a b. free k (omega arith) (omega arith)) in
      omega (arith, a1, a2, b1, b2, e1, e2, full, bare)
]
  where
    shared : (a b c d : ℕ) → (min b d ≤ max a c) ⊎ (max a c < min b d)
    shared a b c d = elim (cases_within (min b d) (suc (max a c)) (max a c)) [ inl w ↦ inl w.1 | inr w ↦ inr (elim w.1 [ inl x ↦ x | inr x ↦ absurd (omega arith) ]) ]
