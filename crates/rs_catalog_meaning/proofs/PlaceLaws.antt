-- The places of numbers in a list.
use Rattle.std.proofs.Common.{◌≡◌, ◌<◌, ◌≤◌, ◌+◌, ◌-◌, ℕ, zero, suc, true, Option, Some, None, is_some, List, [], ◌∷◌, length, map, replicate, set, get_or, refl, sym, ap, subst, ◌∙◌, inl, inr, arith}
use Rattle.std.specs.Prelude.{◌≢◌, Contains, IfNone, IfSome}
use Rattle.std.specs.List.{AllByRecursion}
use Rattle.std.proofs.lemmas.Bool.{cases_eq, cases_lt, cases_order, false≢true}
use Rattle.std.proofs.lemmas.List.{get_or-map, get_or-set_same, get_or-set_other, length-map, length-replicate, length-set, get_or_default}
use Rattle.std.proofs.lemmas.List.Elements.{All-from_recursion, recursion_from_All}
use Rattle.rs_machine.specs.declared.limits.TheConstants.{ROUTES}
use Rattle.rs_page_owners.specs.Counts.{one_at, times}
use Rattle.rs_page_owners.proofs.Moving.{one_at-same, same_number}
use Rattle.rs_catalog_pages.proofs.Counting.{none_or_some, one_at-off, times-cons, times-none}
use Rattle.rs_catalog_meaning.specs.Places.{AreGivenOnce, ArePlaces}

-- ---- how often a number is there

pub times-there : (xs : List ℕ) (i n : ℕ) → i < length xs → get_or xs i 0 ≡ n → 0 < times xs n
times-there [] i n inside is = absurd (omega arith)
times-there (x ∷ xs) zero n inside is =
    subst (λ m. 0 < times (x ∷ xs) m) is (omega (arith, times-cons x xs x, one_at-same x))
times-there (x ∷ xs) (suc i) n inside is = omega (arith, times-cons x xs n, times-there xs i n (omega arith) is)

-- at two places
pub times-twice : (xs : List ℕ) (i j n : ℕ) → i < j → j < length xs → get_or xs i 0 ≡ n → get_or xs j 0 ≡ n → 1 < times xs n
times-twice [] i j n below inside one other = absurd (omega arith)
times-twice (x ∷ xs) i zero n below inside one other = absurd (omega arith)
times-twice (x ∷ xs) zero (suc j) n below inside one other =
    omega (arith, times-cons x xs n, ap (λ m. one_at m n) one, one_at-same n, times-there xs j n (omega arith) other)
times-twice (x ∷ xs) (suc i) (suc j) n below inside one other =
    omega (arith, times-cons x xs n, times-twice xs i j n (omega arith) (omega arith) one other)

-- one item has a number
module _ {X : Type 0} (number_of : X → ℕ) (items : List X) where
  number_at : (item : X) (there : Contains items item) → get_or (map number_of items) there.0 0 ≡ number_of item
  number_at item there = get_or-map number_of items there.0 item 0 there.1 ∙ ap number_of there.2

  twice : (one other : X) (a : Contains items one) (b : Contains items other) → number_of one ≡ number_of other → a.0 < b.0
      → ((n : ℕ) → times (map number_of items) n ≤ 1) → ⊥
  twice one other a b same below once =
      let inside : b.0 < length (map number_of items) = omega (arith, b.1, length-map items number_of) in
      let more = times-twice (map number_of items) a.0 b.0 (number_of other) below inside (number_at one a ∙ same) (number_at other b) in
      absurd (omega (arith, more, once (number_of other)))

  pub same_by_number : (one other : X) → Contains items one → Contains items other → number_of one ≡ number_of other
      → ((n : ℕ) → times (map number_of items) n ≤ 1) → one ≡ other
  same_by_number one other a b same once = elim (cases_order a.0 b.0) [
    | inl at ↦ sym a.2 ∙ ap (λ k. get_or items k one) at ∙ get_or_default items b.0 one other b.1 ∙ b.2
    | inr (inl less) ↦ absurd (twice one other a b same less once)
    | inr (inr more) ↦ absurd (twice other one b a (sym same) more once)
  ]

-- at none
pub times-absent : (xs : List ℕ) (n : ℕ) → ((i : ℕ) → i < length xs → get_or xs i 0 ≡ n → ⊥) → times xs n ≡ 0
times-absent [] n none = times-none n
times-absent (x ∷ xs) n none =
    omega (arith, times-cons x xs n, one_at-off x n (λ e. none 0 (omega arith) (sym e)), times-absent xs n (λ i inside e. none (suc i) (omega arith) e))

-- at one at the most
pub times-once : (xs : List ℕ) (n : ℕ) → ((i j : ℕ) → i < length xs → j < length xs → get_or xs i 0 ≡ n → get_or xs j 0 ≡ n → i ≡ j) → times xs n ≤ 1
times-once [] n same = omega (arith, times-none n)
times-once (x ∷ xs) n same = elim (same_number n x) [
  | inl is ↦
      let none = times-absent xs n (λ i inside e. absurd (zero_suc i (same 0 (suc i) (omega arith) (omega arith) (sym is) e))) in
      omega (arith, times-cons x xs n, ap (λ m. one_at m n) (sym is), one_at-same n, none)
  | inr isnt ↦ omega (arith, times-cons x xs n, one_at-off x n isnt, times-once xs n (λ i j a b e f. suc_same i j (same (suc i) (suc j) (omega arith) (omega arith) e f)))
]
  where
    zero_suc : (i : ℕ) → 0 ≡ suc i → ⊥
    zero_suc i e = absurd (omega arith)

    suc_same : (i j : ℕ) → suc i ≡ suc j → i ≡ j
    suc_same i j e = omega arith

-- ---- while places are put down

-- the places of the first so many numbers
pub record ArePut (numbers places : List ℕ) (count : ℕ) : Type 0 where
  pub as_many : length places ≡ ROUTES
  pub own : (i : ℕ) → i < count → (get_or numbers i 0 < ROUTES) × (get_or places (get_or numbers i 0) 0 ≡ i + 1)
  pub other : (n : ℕ) → 0 < get_or places n 0 → (get_or places n 0 ≤ count) × (get_or numbers (get_or places n 0 - 1) 0 ≡ n)

zeros : (count n : ℕ) → get_or {A = ℕ} (replicate count 0) n 0 ≡ 0
zeros zero n = refl
zeros (suc count) zero = refl
zeros (suc count) (suc n) = zeros count n

pub put_none : (numbers : List ℕ) → ArePut numbers (replicate ROUTES 0) 0
put_none numbers = record {
  as_many = length-replicate {A = ℕ} ROUTES 0;
  own = λ i below. absurd (omega arith);
  other = λ n some. absurd (omega (arith, zeros ROUTES n));
}

pub put_more : (numbers places : List ℕ) (count n : ℕ) → get_or numbers count 0 ≡ n → n < ROUTES → get_or places n 0 ≡ 0
    → ArePut numbers places count → ArePut numbers (set places n (count + 1)) (count + 1)
put_more numbers places count n here below free put = record {
  as_many = length-set places n (count + 1) ∙ put.as_many;
  own = own;
  other = other;
}
  where
    at_new : get_or (set places n (count + 1)) n 0 ≡ count + 1
    at_new = get_or-set_same places n (count + 1) 0 (omega (arith, put.as_many))

    own : (i : ℕ) → i < count + 1 → (get_or numbers i 0 < ROUTES) × (get_or (set places n (count + 1)) (get_or numbers i 0) 0 ≡ i + 1)
    own i before = elim (cases_lt i count) [
      | inl less ↦
          let was = put.own i less in
          (was.0, get_or-set_other places n (get_or numbers i 0) (count + 1) 0 (λ e. absurd (omega (arith, was.1, ap (λ m. get_or places m 0) e, free))) ∙ was.1)
      | inr more ↦
          let e : i ≡ count = omega arith in
          subst (λ k. (get_or numbers k 0 < ROUTES) × (get_or (set places n (count + 1)) (get_or numbers k 0) 0 ≡ k + 1)) (sym e)
          (omega (arith, here), ap (λ m. get_or (set places n (count + 1)) m 0) here ∙ at_new)
    ]

    other : (m : ℕ) → 0 < get_or (set places n (count + 1)) m 0
        → (get_or (set places n (count + 1)) m 0 ≤ count + 1) × (get_or numbers (get_or (set places n (count + 1)) m 0 - 1) 0 ≡ m)
    other m some = elim (cases_eq m n) [
      | inl is ↦
          let value : get_or (set places n (count + 1)) m 0 ≡ count + 1 = ap (λ k. get_or (set places n (count + 1)) k 0) is ∙ at_new in
          let before : get_or (set places n (count + 1)) m 0 - 1 ≡ count = omega (arith, value) in
          (omega (arith, value), ap (λ k. get_or numbers k 0) before ∙ here ∙ sym is)
      | inr isnt ↦
          let same = get_or-set_other places n m (count + 1) 0 isnt in
          let was = put.other m (omega (arith, some, same)) in
          (omega (arith, same, was.0), ap (λ k. get_or numbers (k - 1) 0) same ∙ was.1)
    ]

-- ---- all of them

pub places_of_put : (numbers places : List ℕ) (count : ℕ) → length numbers ≡ count → ArePut numbers places count → ArePlaces numbers places
places_of_put numbers places count whole put = record {
  own = λ i inside. put.own i (omega arith);
  other = λ n some. let at = put.other n some in (omega (arith, at.0), at.1);
}

pub once_of_places : (numbers places : List ℕ) → ArePlaces numbers places → AreGivenOnce numbers
once_of_places numbers places are = record {
  below = recursion_from_All (λ n. n < ROUTES) numbers (λ k d inside. below k d inside);
  once = λ n. times-once numbers n (λ i j a b e f. same n i j a b e f);
}
  where
    below : (k d : ℕ) → k < length numbers → get_or numbers k d < ROUTES
    below k d inside = subst (λ m. m < ROUTES) (get_or_default numbers k 0 d inside) (are.own k inside).0

    same : (n i j : ℕ) → i < length numbers → j < length numbers → get_or numbers i 0 ≡ n → get_or numbers j 0 ≡ n → i ≡ j
    same n i j a b e f =
        let at_i = (are.own i a).1 in
        let at_j = (are.own j b).1 in
        omega (arith, at_i, at_j, ap (λ m. get_or places m 0) (e ∙ sym f))

-- a number past the limit, or with a place before
pub not_below : (numbers : List ℕ) (i n : ℕ) → i < length numbers → get_or numbers i 0 ≡ n → ROUTES ≤ n → AreGivenOnce numbers → ⊥
not_below numbers i n inside is past once = omega (arith, is, All-from_recursion (λ m. m < ROUTES) numbers once.below i 0 inside)

pub not_once : (numbers places : List ℕ) (i n : ℕ) → i < length numbers → get_or numbers i 0 ≡ n → (get_or places n 0 ≡ 0 → ⊥) → ArePut numbers places i → AreGivenOnce numbers → ⊥
not_once numbers places i n inside is some put once =
    elim (none_or_some (get_or places n 0)) [
      | inl none ↦ some none
      | inr more ↦
          let at = put.other n more in
          let twice = times-twice numbers (get_or places n 0 - 1) i n (omega (arith, more, at.0)) inside at.1 is in
          omega (arith, twice, once.once n)
    ]

-- a number past the limit, or with no place
pub absent_past : (numbers places : List ℕ) (n : ℕ) → ArePlaces numbers places → ROUTES ≤ n → AllByRecursion (λ m. m ≢ n) numbers
absent_past numbers places n are past = recursion_from_All (λ m. m ≢ n) numbers (λ k d inside e.
    absurd (omega (arith, e, get_or_default numbers k 0 d inside, (are.own k inside).0)))

pub absent_zero : (numbers places : List ℕ) (n : ℕ) → ArePlaces numbers places → get_or places n 0 ≡ 0 → AllByRecursion (λ m. m ≢ n) numbers
absent_zero numbers places n are none = recursion_from_All (λ m. m ≢ n) numbers (λ k d inside e.
    absurd (omega (arith, ap (λ m. get_or places m 0) (get_or_default numbers k 0 d inside ∙ e), (are.own k inside).1, none)))

-- where places were found, and where not
pub once_if_placed : (numbers : List ℕ) (found : Option (List ℕ)) → IfSome found (λ places. ArePlaces numbers places) → is_some found ≡ true → AreGivenOnce numbers
once_if_placed numbers (Some places) are e = once_of_places numbers places are
once_if_placed numbers None are e = absurd (false≢true e)

pub placed_if_once : (numbers : List ℕ) (found : Option (List ℕ)) → IfNone found (AreGivenOnce numbers → ⊥) → AreGivenOnce numbers → is_some found ≡ true
placed_if_once numbers (Some places) none once = refl
placed_if_once numbers None none once = absurd (none once)
