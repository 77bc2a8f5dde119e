-- Numbers of items that are each given once.
use Rattle.std.proofs.Common.{◌≡◌, ◌<◌, ◌≤◌, ◌+◌, ℕ, zero, suc, true, false, ◌||◌, Some, List, [], ◌∷◌, cond, eq-eqb, eqb, length, map, get_or, slice_get, refl, sym, ap, subst, ◌∙◌, inl, inr, arith}
use Rattle.std.specs.List.{AllByRecursion, AllWithin, count_by, list_any}
use Rattle.std.specs.Option.{option_map}
use Rattle.std.proofs.lemmas.List.{length-map}
use Rattle.std.proofs.lemmas.List.Folds.{list_any_at}
use Rattle.std.proofs.lemmas.Map.Steps.{le-length_from_below}
use Rattle.std.proofs.lemmas.List.Elements.{All-from_recursion, recursion_from_All}
use Rattle.std.proofs.lemmas.List.Sums.{sum_by-cons}
use Rattle.std.proofs.lemmas.Option.{slice_get-map, slice_get_read}
use Rattle.rs_page_owners.specs.Counts.{times}
use Rattle.rs_page_owners.proofs.Moving.{one_at-same, same_number}
use Rattle.rs_catalog_pages.proofs.Counting.{none_or_some, one_at-off, times-cons, times-none}

-- how often a number is given is how many items have it
pub times-map : {X : Type 0} (number : X → ℕ) (xs : List X) (n : ℕ) → times (map number xs) n ≡ count_by (λ x. eqb (number x) n) xs
unfolding times
times-map number [] n = refl
times-map number (x ∷ xs) n =
    sum_by-cons (λ p. cond (eqb p n) 1 0) (number x) (map number xs) ∙ ap (λ k. cond (eqb (number x) n) 1 0 + k) (times-map number xs n)
    ∙ sym (sum_by-cons (λ y. cond (eqb (number y) n) 1 0) x xs)

-- a number that an item has is given
given_at : {X : Type 0} (number : X → ℕ) (xs : List X) (i : ℕ) (d : X) → i < length xs → 0 < times (map number xs) (number (get_or xs i d))
given_at number [] i d inside = absurd (omega arith)
given_at number (x ∷ xs) zero d inside = omega (arith, times-cons (number x) (map number xs) (number x), one_at-same (number x))
given_at number (x ∷ xs) (suc i) d inside =
    omega (arith, times-cons (number x) (map number xs) (number (get_or xs i d)), given_at number xs i d (omega arith))

-- where each item's number is given once, each number that is given is given once
given_once : {X : Type 0} (number : X → ℕ) (all : List ℕ) (xs : List X) → AllByRecursion (λ x. times all (number x) ≡ 1) xs → (n : ℕ)
    → 0 < times (map number xs) n → times all n ≡ 1
given_once number all [] once n some = absurd (omega (arith, times-none n))
given_once number all (x ∷ xs) once n some = elim (same_number n (number x)) [
  | inl is ↦ ap (times all) is ∙ once.0
  | inr isnt ↦ given_once number all xs once.1 n (omega (arith, some, times-cons (number x) (map number xs) n, one_at-off (number x) n isnt))
]

at_most_once : {X : Type 0} (number : X → ℕ) (xs : List X) → AllByRecursion (λ x. times (map number xs) (number x) ≡ 1) xs → (n : ℕ)
    → times (map number xs) n ≤ 1
at_most_once number xs once n = elim (none_or_some (times (map number xs) n)) [
  | inl none ↦ omega (arith, none)
  | inr some ↦ omega (arith, given_once number (map number xs) xs once n some)
]

-- where each number below a limit is given, there are as many items
any_given : (ns : List ℕ) (n : ℕ) → 0 < times ns n → list_any (eqb n) ns ≡ true
any_given [] n some = absurd (omega (arith, some, times-none n))
any_given (m ∷ ms) n some = elim (same_number n m) [
  | inl is ↦ list_any_at (eqb n) (m ∷ ms) 0 0 (omega arith) (eq-eqb n m is)
  | inr isnt ↦
      let rest = any_given ms n (omega (arith, some, times-cons m ms n, one_at-off m n isnt)) in
      elim (eqb n m) as (λ b. (b || list_any (eqb n) ms) ≡ true) [ true ↦ refl | false ↦ rest ]
]

pub all_given : {X : Type 0} (number : X → ℕ) (xs : List X) (limit : ℕ) → ((n : ℕ) → n < limit → 0 < times (map number xs) n) → limit ≤ length xs
all_given number xs limit given =
    omega (arith, length-map xs number, le-length_from_below (map number xs) limit (λ n below. any_given (map number xs) n (given n below)))

-- the numbers are below the limit and given once: of all items at once, and of each
abbrev pub AreOnce : {X : Type 0} → (X → ℕ) → ℕ → List X → Type 0
AreOnce number limit xs = AllByRecursion (λ x. number x < limit) xs × ((n : ℕ) → times (map number xs) n ≤ 1)

pub once_all : {X : Type 0} (number : X → ℕ) (limit : ℕ) (xs : List X) (n : ℕ) → length xs ≤ n
    → AllWithin (λ x. (number x < limit) × (times (map number xs) (number x) ≡ 1)) xs 0 n → AreOnce number limit xs
once_all number limit xs n whole all = (
  recursion_from_All (λ x. number x < limit) xs (λ k d inside. (all k d (omega arith) (omega arith)).0),
  at_most_once number xs (recursion_from_All (λ x. times (map number xs) (number x) ≡ 1) xs (λ k d inside. (all k d (omega arith) (omega arith)).1)),
)

pub once_at : {X : Type 0} (number : X → ℕ) (limit : ℕ) (xs : List X) (i : ℕ) (x : X) → i < length xs → x ≡ get_or xs i x → AreOnce number limit xs
    → (number x < limit) × (times (map number xs) (number x) ≡ 1)
once_at number limit xs i x inside is once =
    subst (λ y. (number y < limit) × (times (map number xs) (number y) ≡ 1)) (sym is)
    (All-from_recursion (λ y. number y < limit) xs once.0 i x inside, omega (arith, given_at number xs i x inside, once.1 (number (get_or xs i x))))

-- what is so of each item, at one and of all
pub each_at : {X : Type 0} (P : X → Type 0) (xs : List X) (i : ℕ) (x : X) → i < length xs → x ≡ get_or xs i x → AllByRecursion P xs → P x
each_at P xs i x inside is all = subst P (sym is) (All-from_recursion P xs all i x inside)

pub each_all : {X : Type 0} (P : X → Type 0) (xs : List X) (n : ℕ) → length xs ≤ n → AllWithin P xs 0 n → AllByRecursion P xs
each_all P xs n whole all = recursion_from_All P xs (λ k d inside. all k d (omega arith) (omega arith))

-- what an item of a list is said to be
pub said_at : {X Y : Type 0} (said : X → Y) (xs : List X) (i : ℕ) (x : X) → i < length xs → x ≡ get_or xs i x → slice_get (map said xs) i ≡ Some (said x)
said_at said xs i x inside is = slice_get-map said xs i ∙ ap (option_map said) (slice_get_read xs (length xs) i x refl inside is)

-- items as they are said
pub each_said : {X Y : Type 0} (said : X → Y) (P : Y → Type 0) (xs : List X) → AllByRecursion (λ x. P (said x)) xs → AllByRecursion P (map said xs)
each_said said P [] all = tt
each_said said P (x ∷ xs) all = (all.0, each_said said P xs all.1)

pub said_each : {X Y : Type 0} (said : X → Y) (P : Y → Type 0) (xs : List X) → AllByRecursion P (map said xs) → AllByRecursion (λ x. P (said x)) xs
said_each said P [] all = tt
said_each said P (x ∷ xs) all = (all.0, said_each said P xs all.1)
