-- Sums over lists and over thousandths.
use Rattle.std.proofs.Common.{◌≡◌, ℕ, zero, suc, ◌+◌, ◌-◌, ◌*◌, ◌<◌, ◌≤◌, Bool, true, false, cond, inl, inr, List, [], ◌∷◌, map, refl, sym, ap, ◌∙◌, arith, zero-add}
use Rattle.std.proofs.lemmas.Bool.{cases_lt}
use Rattle.std.proofs.lemmas.List.Sums.{sum_by-cons}
use Rattle.std.specs.List.{sum_by, count_by, filter}
use Rattle.rs_facts.specs.Fact.{thousandths}
use Rattle.rs_facts.specs.Insert.{within}
use Rattle.rs_facts.proofs.Counting.{thousandths-empty, thousandths-first, count-split, count-empty, count-none, count-all}
use Rattle.rs_facts.proofs.Placing.{within-true, within-false}

pub sum-zero : {X : Type 0} (f : X → ℕ) (xs : List X) → ((x : X) → f x ≡ 0) → sum_by f xs ≡ 0
sum-zero f [] e = refl
sum-zero f (x ∷ xs) e = sum_by-cons f x xs ∙ omega (arith, e x, sum-zero f xs e)

pub sum-plus : {X : Type 0} (f g : X → ℕ) (xs : List X) → sum_by (λ x. f x + g x) xs ≡ sum_by f xs + sum_by g xs
sum-plus f g [] = refl
sum-plus f g (x ∷ xs) =
    let rest = sum-plus f g xs in
    let a = sum_by-cons f x xs in
    let b = sum_by-cons g x xs in
    sum_by-cons (λ y. f y + g y) x xs ∙ omega (arith, rest, a, b)

pub sum-map : {X Y : Type 0} (f : Y → ℕ) (change : X → Y) (xs : List X) → sum_by f (map change xs) ≡ sum_by (λ x. f (change x)) xs
sum-map f change [] = refl
sum-map f change (x ∷ xs) = sum_by-cons f (change x) (map change xs) ∙ ap (λ n. f (change x) + n) (sum-map f change xs) ∙ sym (sum_by-cons (λ y. f (change y)) x xs)

-- an amount of what passes
abbrev pub amount_if : {X : Type 0} → (X → Bool) → (X → ℕ) → X → ℕ
amount_if test amount x = cond (test x) (amount x) 0

pub sum-filter : {X : Type 0} (test : X → Bool) (amount : X → ℕ) (xs : List X) → sum_by amount (filter test xs) ≡ sum_by (amount_if test amount) xs
sum-filter test amount [] = refl
sum-filter {X} test amount (x ∷ xs) =
    elim (test x) as (λ t. sum_by amount (cond t (x ∷ filter test xs) (filter test xs)) ≡ cond t (amount x) 0 + sum_by (amount_if test amount) xs) [
      | true ↦ sum_by-cons amount x (filter test xs) ∙ ap (λ n. amount x + n) (sum-filter test amount xs)
      | false ↦ sum-filter test amount xs ∙ sym (zero-add (sum_by (amount_if test amount) xs))
    ] ∙ sym (sum_by-cons (amount_if test amount) x xs)

-- ---- over thousandths

agree_by : (f g : ℕ → ℕ) (from to n : ℕ) → from + n ≡ to → ((k : ℕ) → from ≤ k → k < to → f k ≡ g k) → sum_by f (thousandths from to) ≡ sum_by g (thousandths from to)
agree_by f g from to zero e h = let none = thousandths-empty from to (omega arith) in ap (sum_by f) none ∙ sym (ap (sum_by g) none)
agree_by f g from to (suc n) e h =
    let first = thousandths-first from to (omega arith) in
    ap (sum_by f) first ∙ sum_by-cons f from (thousandths (suc from) to)
    ∙ ap (λ m. m + sum_by f (thousandths (suc from) to)) (h from (omega arith) (omega arith))
    ∙ ap (λ m. g from + m) (agree_by f g (suc from) to n (omega arith) (λ k a b. h k (omega arith) b))
    ∙ sym (ap (sum_by g) first ∙ sum_by-cons g from (thousandths (suc from) to))

-- two functions that agree along the thousandths add up alike
pub sum-agree : (f g : ℕ → ℕ) (from to : ℕ) → ((k : ℕ) → from ≤ k → k < to → f k ≡ g k) → sum_by f (thousandths from to) ≡ sum_by g (thousandths from to)
sum-agree f g from to h = elim (cases_lt from to) [
  | inl less ↦ agree_by f g from to (to - from) (omega arith) h
  | inr none ↦ let empty = thousandths-empty from to none in ap (sum_by f) empty ∙ sym (ap (sum_by g) empty)
]

pub sum-cond : (p : ℕ → Bool) (c : ℕ) (xs : List ℕ) → sum_by (λ k. cond (p k) c 0) xs ≡ count_by p xs * c
sum-cond p c [] = omega arith
sum-cond p c (x ∷ xs) =
    let rest = sum-cond p c xs in
    sum_by-cons (λ k. cond (p k) c 0) x xs
    ∙ elim (p x) as (λ t. cond t c 0 + sum_by (λ k. cond (p k) c 0) xs ≡ (cond t 1 0 + count_by p xs) * c) [
      | true ↦ ap (λ n. c + n) rest ∙ one_more c (count_by p xs)
      | false ↦ ap (λ n. 0 + n) rest ∙ none_more c (count_by p xs)
    ] ∙ ap (λ n. n * c) (sym (sum_by-cons (λ k. cond (p k) 1 0) x xs))
  where
    one_more : (c n : ℕ) → c + n * c ≡ (1 + n) * c
    one_more c n = grind arith

    none_more : (c n : ℕ) → 0 + n * c ≡ (0 + n) * c
    none_more c n = grind arith

-- how many thousandths lie within
pub count-within : (lo hi from to : ℕ) → from ≤ lo → hi ≤ to → count_by (within lo hi) (thousandths from to) ≡ hi - lo
count-within lo hi from to a b = elim (cases_lt lo hi) [
  | inl less ↦
      let cut = count-split (within lo hi) from lo to a (omega arith) in
      let again = count-split (within lo hi) lo hi to (omega arith) b in
      let before = count-none (within lo hi) from lo a (λ k c d. within-false lo hi k (inl d)) in
      let inside = count-all (within lo hi) lo hi (omega arith) (λ k c d. within-true lo hi k c d) in
      let after = count-none (within lo hi) hi to b (λ k c d. within-false lo hi k (inr c)) in
      omega (arith, cut, again, before, inside, after)
  | inr none ↦ elim (cases_lt from to) [
    | inl some ↦ count-none (within lo hi) from to (omega arith) (λ k c d. within-false lo hi k (elim (cases_lt k lo) [ inl below ↦ inl below | inr beyond ↦ inr (omega arith) ])) ∙ omega arith
    | inr empty ↦ count-empty (within lo hi) from to empty ∙ omega arith
  ]
]
