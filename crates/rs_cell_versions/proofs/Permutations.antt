-- Lists of cells that have the same cells equally often are permutations of one another.
use Rattle.std.proofs.Common.{◌≡◌, ◌<◌, ◌≤◌, ◌+◌, ℕ, zero, suc, Bool, true, false, cond, List, [], ◌∷◌, length, get_or, refl, sym, ap, subst, inl, inr, arith}
use Rattle.std.proofs.lemmas.List.Sorted.{IsPermutation-refl, IsPermutation-sym, IsPermutation-trans, IsPermutation-cons, IsPermutation-remove, sum_by-IsPermutation}
use Rattle.std.proofs.lemmas.List.Sums.{sum_by-cons, sum_by-remove}
use Rattle.std.specs.List.{sum_by, remove}
use Rattle.std.specs.List.Sorted.{IsPermutation}
use Rattle.rs_records.specs.Order.{is_below}
use Rattle.rs_records.proofs.Orders.{is_below-self, is_below-cases}

-- 1 where the two are the same
same_at : List ℕ → List ℕ → ℕ
same_at one other = cond (is_below one other) 0 (cond (is_below other one) 0 1)

same_at-self : (one : List ℕ) → same_at one one ≡ 1
unfolding same_at
same_at-self one = rw (is_below-self one) refl

same_at-told : (one other : List ℕ) → 1 ≤ same_at one other → other ≡ one
unfolding same_at
same_at-told one other h = elim (is_below-cases one other) [
  | inl less ↦ let none : 1 ≤ 0 = subst (λ b. 1 ≤ cond b 0 (cond (is_below other one) 0 1)) less h in absurd (omega arith)
  | inr (inl same) ↦ sym same
  | inr (inr more) ↦ let none : 1 ≤ 0 = by_test (is_below one other) (subst (λ b. 1 ≤ cond (is_below one other) 0 (cond b 0 1)) more h) in absurd (omega arith)
] where
  by_test : (b : Bool) → 1 ≤ cond b 0 0 → 1 ≤ 0
  by_test true h = h
  by_test false h = h

-- how often the cell is there
times_in : List ℕ → List (List ℕ) → ℕ
times_in one = sum_by (same_at one)

times_in-cons : (one x : List ℕ) (xs : List (List ℕ)) → times_in one (x ∷ xs) ≡ same_at one x + times_in one xs
unfolding times_in
times_in-cons one x xs = sum_by-cons (same_at one) x xs

times_in-none : (one : List ℕ) → times_in one [] ≡ 0
unfolding times_in
times_in-none one = refl

found_in : (one : List ℕ) (xs : List (List ℕ)) → 1 ≤ times_in one xs → (i : ℕ) × (i < length xs) × (one ≡ get_or xs i one)
found_in one [] h = absurd (omega (arith, times_in-none one))
found_in one (x ∷ xs) h = by_count (same_at one x) refl (λ some. found_in one xs some) where
  by_count : (n : ℕ) → same_at one x ≡ n → (1 ≤ times_in one xs → (i : ℕ) × (i < length xs) × (one ≡ get_or xs i one)) → (i : ℕ) × (i < length (x ∷ xs)) × (one ≡ get_or (x ∷ xs) i one)
  by_count zero e later = let rest = later (omega (arith, times_in-cons one x xs)) in (suc rest.0, omega (arith, rest.1), rest.2)
  by_count (suc n) e later = (zero, omega arith, sym (same_at-told one x (omega arith)))

removed_times : (one : List ℕ) (xs : List (List ℕ)) (i : ℕ) (d : List ℕ) → i < length xs → times_in one (remove xs i) + same_at one (get_or xs i d) ≡ times_in one xs
unfolding times_in
removed_times one xs i d h = sum_by-remove (same_at one) xs i d h

permuted : (xs ys : List (List ℕ)) → ((one : List ℕ) → times_in one xs ≡ times_in one ys) → IsPermutation xs ys
permuted [] [] same = IsPermutation-refl []
permuted [] (y ∷ ys) same = absurd (omega (arith, same y, times_in-none y, times_in-cons y y ys, same_at-self y))
permuted (x ∷ xs) ys same =
    let there = found_in x ys (omega (arith, same x, times_in-cons x x xs, same_at-self x)) in
    let moved : IsPermutation ys (x ∷ remove ys there.0) = IsPermutation-remove ys there.0 x there.1 there.2 in
    let rest : IsPermutation xs (remove ys there.0) = permuted xs (remove ys there.0) (λ one.
    let out = removed_times one ys there.0 x there.1 in
    let here : same_at one (get_or ys there.0 x) ≡ same_at one x = ap (same_at one) (sym there.2) in
    omega (arith, out, here, same one, times_in-cons one x xs)) in
    IsPermutation-trans (x ∷ xs) (x ∷ remove ys there.0) ys (IsPermutation-cons x xs (remove ys there.0) rest) (IsPermutation-sym ys (x ∷ remove ys there.0) moved)

permuted_times : (one : List ℕ) (xs ys : List (List ℕ)) → IsPermutation xs ys → times_in one ys ≡ times_in one xs
unfolding times_in
permuted_times one xs ys p = sum_by-IsPermutation (same_at one) xs ys p

-- what is first in both may be left out
pub IsPermutation-rest : (x : List ℕ) (xs ys : List (List ℕ)) → IsPermutation (x ∷ xs) (x ∷ ys) → IsPermutation xs ys
IsPermutation-rest x xs ys p = permuted xs ys (λ one. omega (arith, permuted_times one (x ∷ xs) (x ∷ ys) p, times_in-cons one x xs, times_in-cons one x ys))
