-- Operands by weight: the order that a stable sort gives, and no other.
use Rattle.std.proofs.Common.{◌≡◌, ℕ, zero, suc, ◌<◌, ◌≤◌, Bool, true, false, not, cond, List, [], ◌∷◌, length, get_or, filter, Less, Equal, Greater, refl, sym, ap, ◌∙◌, arith}
use Rattle.std.specs.Prelude.{nat_le, nat_lt, nat_eq}
use Rattle.std.proofs.lemmas.Bool.{ltb-false, leb-true, leb-false, le-ltb, and_parts, and_from}
use Rattle.std.proofs.lemmas.List.Elements.{recursion_from_All}
use Rattle.std.proofs.lemmas.List.Sorted.{ranks_by, sorted_far}
use Rattle.std.proofs.Math.Numerals.{add-one}
use Rattle.std.specs.Cmp.{nat_cmp_total}
use Rattle.std.specs.List.{AllByRecursion}
use Rattle.std.specs.List.Sorted.{IsSortedByKey, ties}
use Rattle.std.specs.Ordering.{is_lt, nat_cmp}
use Rattle.rs_facts.specs.Fact.{Name}
use Rattle.rs_planning.specs.Laws as laws
use Rattle.rs_planning.specs.Laws.{weight_of}
use Rattle.rs_planning.specs.Rule.{PlacedOperand, inserted_by_weight, lightest_first}
use Rattle.rs_planning.proofs.Meeting.{every-weaker}
use Rattle.rs_planning.proofs.PuttingBack.{lightest-permutes}

is-below : (a b : ℕ) → is_lt (nat_cmp a b) ≡ nat_lt a b
is-below a b = by (nat_lt a b) (nat_eq a b)
  where
    by : (s t : Bool) → is_lt (cond s Less (cond t Equal Greater)) ≡ s
    by true t = refl
    by false true = refl
    by false false = refl

module _ {X : Type 0} (key : X → ℕ) where
  abbrev pub lighter : X → X → Bool
  lighter x y = is_lt (nat_cmp (key x) (key y))

  -- each is no heavier than all that follow
  abbrev pub Rise : List X → Type 0
  Rise [] = Unit {0}
  Rise (x ∷ xs) = AllByRecursion (λ y. key x ≤ key y) xs × Rise xs

  tie-true : (x y : X) → ties lighter x y ≡ true → key x ≡ key y
  tie-true x y e =
      let parts = and_parts (not (lighter x y)) (not (lighter y x)) e in
      let a = ltb-false (key x) (key y) (sym (is-below (key x) (key y)) ∙ not_true (lighter x y) parts.0) in
      let b = ltb-false (key y) (key x) (sym (is-below (key y) (key x)) ∙ not_true (lighter y x) parts.1) in
      omega (arith, a, b)
    where
      not_true : (t : Bool) → not t ≡ true → t ≡ false
      not_true true e = sym e
      not_true false e = refl

  true-tie : (x y : X) → key x ≡ key y → ties lighter x y ≡ true
  true-tie x y e = and_from (not (lighter x y)) (not (lighter y x))
      (ap not (is-below (key x) (key y) ∙ le-ltb (key x) (key y) (omega (arith, e))))
      (ap not (is-below (key y) (key x) ∙ le-ltb (key y) (key x) (omega (arith, e))))

  -- ---- lists that rise

  rise-pairs : (xs : List X) → ((i j : ℕ) (d : X) → i ≤ j → j < length xs → key (get_or xs i d) ≤ key (get_or xs j d)) → Rise xs
  rise-pairs [] h = tt
  rise-pairs (x ∷ xs) h = (recursion_from_All (λ y. key x ≤ key y) xs (λ k d below. h 0 (suc k) d (omega arith) (omega arith)), rise-pairs xs (λ i j d a b. h (suc i) (suc j) d (omega arith) (omega arith)))

  pub rise-sorted : (xs : List X) → IsSortedByKey key nat_cmp xs → Rise xs
  rise-sorted xs up = rise-pairs xs (λ i j d a b. ltb-false (key (get_or xs j d)) (key (get_or xs i d)) (sym (is-below (key (get_or xs j d)) (key (get_or xs i d))) ∙ sorted_far lighter (ranks_by nat_cmp_total key) xs up i j d a b))

  near : (xs : List X) → Rise xs → (k : ℕ) (d : X) → suc k < length xs → key (get_or xs k d) ≤ key (get_or xs (suc k) d)
  near [] rise k d below = absurd (omega arith)
  near (x ∷ []) rise zero d below = absurd (omega arith)
  near (x ∷ y ∷ xs) rise zero d below = rise.0.0
  near (x ∷ xs) rise (suc k) d below = near xs rise.1 k d (omega arith)

  pub sorted-rise : (xs : List X) → Rise xs → IsSortedByKey key nat_cmp xs
  sorted-rise xs rise k d from below =
      ap (λ n. lighter (get_or xs n d) (get_or xs k d)) (add-one k)
      ∙ is-below (key (get_or xs (suc k) d)) (key (get_or xs k d))
      ∙ le-ltb (key (get_or xs (suc k) d)) (key (get_or xs k d)) (near xs rise k d (omega arith))

  -- ---- two stable sorts of one list

  -- what ties with an element is as heavy as the least
  least-tie : (n : ℕ) (x : X) (xs : List X) → AllByRecursion (λ y. n ≤ key y) xs → (first : X) (rest : List X) → filter (ties lighter x) xs ≡ first ∷ rest → n ≤ key x
  least-tie n x [] above first rest e = absurd (let wrong = e in cc)
  least-tie n x (y ∷ xs) above first rest e = by (ties lighter x y) refl e (least-tie n x xs above.1 first rest)
    where
      by : (t : Bool) → ties lighter x y ≡ t → cond t (y ∷ filter (ties lighter x) xs) (filter (ties lighter x) xs) ≡ first ∷ rest → (filter (ties lighter x) xs ≡ first ∷ rest → n ≤ key x) → n ≤ key x
      by true t e h = let same = tie-true x y t in let a = above.0 in omega (arith, same, a)
      by false t e h = h e

  starts : (x : X) (xs : List X) → filter (ties lighter x) (x ∷ xs) ≡ x ∷ filter (ties lighter x) xs
  starts x xs = ap (λ t. cond t (x ∷ filter (ties lighter x) xs) (filter (ties lighter x) xs)) (true-tie x x refl)

  agree : (ys zs : List X) → Rise ys → Rise zs → ((x : X) → filter (ties lighter x) ys ≡ filter (ties lighter x) zs) → ys ≡ zs
  agree [] [] a b same = refl
  agree [] (z ∷ zs) a b same = absurd (let wrong : [] ≡ z ∷ filter (ties lighter z) zs = same z ∙ starts z zs in cc)
  agree (y ∷ ys) [] a b same = absurd (let wrong : y ∷ filter (ties lighter y) ys ≡ [] = sym (starts y ys) ∙ same y in cc)
  agree (y ∷ ys) (z ∷ zs) a b same =
      let le : key z ≤ key y = least-tie (key z) y (z ∷ zs) (omega arith, b.0) y (filter (ties lighter y) ys) (sym (same y) ∙ starts y ys) in
      let ge : key y ≤ key z = least-tie (key y) z (y ∷ ys) (omega arith, a.0) z (filter (ties lighter z) zs) (same z ∙ starts z zs) in
      let tied = true-tie y z (omega arith) in
      let heads : y ∷ filter (ties lighter y) ys ≡ z ∷ filter (ties lighter y) zs = sym (starts y ys) ∙ same y ∙ ap (λ t. cond t (z ∷ filter (ties lighter y) zs) (filter (ties lighter y) zs)) tied in
      let one : y ≡ z = cc in
      (λ i. one i ∷ agree ys zs a.1 b.1 (λ x. rest x (ties lighter x y) (ties lighter x z) (ap (ties lighter x) one) (same x)) i)
    where
      rest : (x : X) (s t : Bool) → s ≡ t → cond s (y ∷ filter (ties lighter x) ys) (filter (ties lighter x) ys) ≡ cond t (z ∷ filter (ties lighter x) zs) (filter (ties lighter x) zs) → filter (ties lighter x) ys ≡ filter (ties lighter x) zs
      rest x true true same e = cc
      rest x true false same e = absurd (let wrong = same in cc)
      rest x false true same e = absurd (let wrong = same in cc)
      rest x false false same e = e

-- ---- insertion by weight is one

module _ (record_count : Name → ℕ) where
  abbrev heavy : PlacedOperand → ℕ
  heavy = weight_of record_count

  every-inserted : (P : PlacedOperand → Type 0) (one : PlacedOperand) (others : List PlacedOperand) → P one → AllByRecursion P others → AllByRecursion P (inserted_by_weight record_count one others)
  every-inserted P one [] h all = (h, tt)
  every-inserted P one (other ∷ others) h all = by (nat_le (heavy one) (heavy other)) (every-inserted P one others h all.1)
    where
      by : (t : Bool) → AllByRecursion P (inserted_by_weight record_count one others) → AllByRecursion P (cond t (one ∷ other ∷ others) (other ∷ inserted_by_weight record_count one others))
      by true rest = (h, all)
      by false rest = (all.0, rest)

  rise-inserted : (one : PlacedOperand) (others : List PlacedOperand) → Rise heavy others → Rise heavy (inserted_by_weight record_count one others)
  rise-inserted one [] rise = (tt, tt)
  rise-inserted one (other ∷ others) rise = by (nat_le (heavy one) (heavy other)) refl (rise-inserted one others rise.1)
    where
      by : (t : Bool) → nat_le (heavy one) (heavy other) ≡ t → Rise heavy (inserted_by_weight record_count one others) → Rise heavy (cond t (one ∷ other ∷ others) (other ∷ inserted_by_weight record_count one others))
      by true e rest = let le = leb-true (heavy one) (heavy other) e in ((le, every-weaker _ _ (λ later h. omega (arith, le, h)) others rise.0), rise)
      by false e rest = let l = leb-false (heavy one) (heavy other) e in (every-inserted (λ later. heavy other ≤ heavy later) one others (omega (arith, l)) rise.0, rest)

  rise-lightest : (placed : List PlacedOperand) → Rise heavy (lightest_first record_count placed)
  rise-lightest [] = tt
  rise-lightest (one ∷ others) = rise-inserted one (lightest_first record_count others) (rise-lightest others)

  stable-inserted : (x one : PlacedOperand) (others : List PlacedOperand) → filter (ties (lighter heavy) x) (inserted_by_weight record_count one others) ≡ filter (ties (lighter heavy) x) (one ∷ others)
  stable-inserted x one [] = refl
  stable-inserted x one (other ∷ others) = by (nat_le (heavy one) (heavy other)) refl (stable-inserted x one others)
    where
      tied : PlacedOperand → Bool
      tied = ties (lighter heavy) x

      rest : List PlacedOperand
      rest = filter tied others

      turned : (s t : Bool) → tied one ≡ s → tied other ≡ t → heavy other < heavy one → cond t (other ∷ cond s (one ∷ rest) rest) (cond s (one ∷ rest) rest) ≡ cond s (one ∷ cond t (other ∷ rest) rest) (cond t (other ∷ rest) rest)
      turned true true a b l = absurd (let p = tie-true heavy x one a in let q = tie-true heavy x other b in omega (arith, p, q, l))
      turned true false a b l = refl
      turned false true a b l = refl
      turned false false a b l = refl

      by : (t : Bool) → nat_le (heavy one) (heavy other) ≡ t → filter tied (inserted_by_weight record_count one others) ≡ filter tied (one ∷ others)
          → filter tied (cond t (one ∷ other ∷ others) (other ∷ inserted_by_weight record_count one others)) ≡ filter tied (one ∷ other ∷ others)
      by true e h = refl
      by false e h =
          ap (λ (l : List PlacedOperand). cond (tied other) (other ∷ l) l) h
          ∙ turned (tied one) (tied other) refl refl (leb-false (heavy one) (heavy other) e)

  stable-lightest : (placed : List PlacedOperand) (x : PlacedOperand) → filter (ties (lighter heavy) x) (lightest_first record_count placed) ≡ filter (ties (lighter heavy) x) placed
  stable-lightest [] x = refl
  stable-lightest (one ∷ others) x =
      stable-inserted x one (lightest_first record_count others)
      ∙ ap (λ (l : List PlacedOperand). cond (ties (lighter heavy) x one) (one ∷ l) l) (stable-lightest others x)

pub by-weight : laws.OperandsGoByWeight
by-weight record_count placed = record {
  same = lightest-permutes record_count placed;
  rising = sorted-rise (weight_of record_count) (lightest_first record_count placed) (rise-lightest record_count placed);
  stable = stable-lightest record_count placed;
}

pub sorts-agree : laws.StableSortsAgree
sorts-agree record_count placed sorted are = agree (weight_of record_count) sorted (lightest_first record_count placed)
    (rise-sorted (weight_of record_count) sorted are.rising)
    (rise-lightest record_count placed)
    (λ x. are.stable x ∙ sym (stable-lightest record_count placed x))
