-- What holds of a list and of each list with the same elements in another order.
use Rattle.std.proofs.Common.{◌<◌, ℕ, zero, suc, Bool, true, false, cond, List, [], ◌∷◌, length, get_or, set, filter, refl, subst, arith}
use Rattle.std.proofs.lemmas.List.Edits.{swap_is}
use Rattle.std.proofs.lemmas.List.Sorted.{IsPermutation-refl, IsPermutation-cons, IsPermutation-keeps, IsPermutation-swap, IsPermutation-trans}
use Rattle.std.specs.List.{swap}
use Rattle.std.specs.List.Sorted.{IsPermutation}

-- a relation that holds of equal lists, goes on, and holds where the rests are related and where the first two are exchanged
-- holds of permutations
module _ {X : Type 0} (R : List X → List X → Type 0) (same : (xs : List X) → R xs xs) (then : (xs ys zs : List X) → R xs ys → R ys zs → R xs zs)
    (under : (x : X) (xs ys : List X) → R xs ys → R (x ∷ xs) (x ∷ ys)) (flip : (x y : X) (xs : List X) → R (x ∷ y ∷ xs) (y ∷ x ∷ xs)) where
  -- the first with another
  front : (x : X) (xs : List X) (j : ℕ) (d : X) → j < length xs → R (x ∷ xs) (get_or xs j d ∷ set xs j x)
  front x [] j d inside = absurd (omega arith)
  front x (y ∷ ys) zero d inside = flip x y ys
  front x (y ∷ ys) (suc j) d inside =
      then (x ∷ y ∷ ys) (y ∷ x ∷ ys) (get_or ys j d ∷ y ∷ set ys j x) (flip x y ys)
      (then (y ∷ x ∷ ys) (y ∷ get_or ys j d ∷ set ys j x) (get_or ys j d ∷ y ∷ set ys j x) (under y (x ∷ ys) (get_or ys j d ∷ set ys j x) (front x ys j d (omega arith))) (flip y (get_or ys j d) (set ys j x)))

  exchange : (xs : List X) (i j : ℕ) (d : X) → i < length xs → j < length xs → R xs (set (set xs i (get_or xs j d)) j (get_or xs i d))
  exchange [] i j d one other = absurd (omega arith)
  exchange (x ∷ xs) zero zero d one other = same (x ∷ xs)
  exchange (x ∷ xs) zero (suc j) d one other = front x xs j d (omega arith)
  exchange (x ∷ xs) (suc i) zero d one other = front x xs i d (omega arith)
  exchange (x ∷ xs) (suc i) (suc j) d one other = under x xs (set (set xs i (get_or xs j d)) j (get_or xs i d)) (exchange xs i j d (omega arith) (omega arith))

  pub shuffled : (xs ys : List X) → IsPermutation xs ys → R xs ys
  shuffled xs = IsPermutation-keeps xs (R xs) (same xs) (λ l i j one other h. then xs l _ h (swapped l i j one other)) where
    swapped : (l : List X) (i j : ℕ) → i < length l → j < length l → R l (swap l i j)
    swapped [] i j one other = absurd (omega arith)
    swapped (x ∷ l) i j one other = subst (R (x ∷ l)) (swap_is (x ∷ l) i j x one other) (exchange (x ∷ l) i j x one other)

-- tests keep the same of both
module _ {X : Type 0} (test : X → Bool) where
  abbrev Keeps : List X → List X → Type 0
  Keeps xs ys = IsPermutation (filter test xs) (filter test ys)

  keeps_under : (x : X) (xs ys : List X) → Keeps xs ys → Keeps (x ∷ xs) (x ∷ ys)
  keeps_under x xs ys h = by_test (test x) where
    by_test : (b : Bool) → IsPermutation (cond b (x ∷ filter test xs) (filter test xs)) (cond b (x ∷ filter test ys) (filter test ys))
    by_test true = IsPermutation-cons x (filter test xs) (filter test ys) h
    by_test false = h

  keeps_flip : (x y : X) (xs : List X) → Keeps (x ∷ y ∷ xs) (y ∷ x ∷ xs)
  keeps_flip x y xs = by_tests (test x) (test y) (filter test xs) where
    by_tests : (a b : Bool) (rest : List X) → IsPermutation (cond a (x ∷ cond b (y ∷ rest) rest) (cond b (y ∷ rest) rest)) (cond b (y ∷ cond a (x ∷ rest) rest) (cond a (x ∷ rest) rest))
    by_tests true true rest = IsPermutation-swap (x ∷ y ∷ rest) (y ∷ x ∷ rest) 0 1 (omega arith) (omega arith) refl
    by_tests true false rest = IsPermutation-refl (x ∷ rest)
    by_tests false true rest = IsPermutation-refl (y ∷ rest)
    by_tests false false rest = IsPermutation-refl rest

  pub IsPermutation-filter : (xs ys : List X) → IsPermutation xs ys → IsPermutation (filter test xs) (filter test ys)
  IsPermutation-filter =
      shuffled Keeps (λ xs. IsPermutation-refl (filter test xs)) (λ xs ys zs. IsPermutation-trans (filter test xs) (filter test ys) (filter test zs)) keeps_under keeps_flip
