-- A stable sort of elements sorts what is seen of them.
use Rattle.std.proofs.Common.{◌≡◌, ℕ, ◌≤◌, Bool, true, false, not, ◌&&◌, cond, List, [], ◌∷◌, map, filter, refl, sym, ap, ◌∙◌, arith}
use Rattle.std.specs.List.{AllByRecursion}
use Rattle.std.specs.List.Sorted.{IsPermutation, IsSortedByKey, IsStableByKey, ties}
use Rattle.std.specs.Ordering.{is_lt, nat_cmp}
use Rattle.std.proofs.lemmas.List.Elements.{All-from_recursion, recursion_from_All}
use Rattle.std.proofs.lemmas.List.Sorted.{All-permutation}
use Rattle.rs_planning.proofs.ByWeight.{Rise, rise-sorted, sorted-rise}

pub all-permuted : {X : Type 0} (P : X → Type 0) (xs ys : List X) → IsPermutation xs ys → AllByRecursion P xs → AllByRecursion P ys
all-permuted P xs ys moved all = recursion_from_All P ys (All-permutation P xs ys moved (All-from_recursion P xs all))

module _ {X Y : Type 0} (key : X → ℕ) (rank : Y → ℕ) (see : X → Y) where
  -- each ranks as its key says
  abbrev pub AreRanked : List X → Type 0
  AreRanked xs = AllByRecursion (λ x. rank (see x) ≡ key x) xs

  above : (m n : ℕ) (xs : List X) → m ≡ n → AllByRecursion (λ x. n ≤ key x) xs → AreRanked xs → AllByRecursion (λ y. m ≤ rank y) (map see xs)
  above m n [] same all ranked = tt
  above m n (x ∷ xs) same all ranked = ((let le = all.0 in let is = ranked.0 in omega (arith, le, is, same)), above m n xs same all.1 ranked.1)

  rise-seen : (xs : List X) → Rise key xs → AreRanked xs → Rise rank (map see xs)
  rise-seen [] rise ranked = tt
  rise-seen (x ∷ xs) rise ranked = (above (rank (see x)) (key x) xs ranked.0 rise.0 ranked.1, rise-seen xs rise.1 ranked.1)

  pub sorted-seen : (xs : List X) → IsSortedByKey key nat_cmp xs → AreRanked xs → IsSortedByKey rank nat_cmp (map see xs)
  sorted-seen xs up ranked = sorted-rise rank (map see xs) (rise-seen xs (rise-sorted key xs up) ranked)

  abbrev same_rank : ℕ → ℕ → Bool
  same_rank m n = not (is_lt (nat_cmp m n)) && not (is_lt (nat_cmp n m))

  filter-seen : (y : Y) (xs : List X) → AreRanked xs → filter (ties (λ a b. is_lt (nat_cmp (rank a) (rank b))) y) (map see xs) ≡ map see (filter (λ x. same_rank (rank y) (key x)) xs)
  filter-seen y [] ranked = refl
  filter-seen y (x ∷ xs) ranked =
      (λ i. cond (same_rank (rank y) (ranked.0 i)) (see x ∷ filter-seen y xs ranked.1 i) (filter-seen y xs ranked.1 i))
      ∙ by (same_rank (rank y) (key x)) (filter (λ x. same_rank (rank y) (key x)) xs)
    where
      by : (t : Bool) (rest : List X) → cond t (see x ∷ map see rest) (map see rest) ≡ map see (cond t (x ∷ rest) rest)
      by true rest = refl
      by false rest = refl

  -- for each number there is an element of that key
  pub stable-seen : (any : ℕ → X) → ((n : ℕ) → key (any n) ≡ n) → (xs ys : List X) → IsStableByKey key nat_cmp xs ys → AreRanked xs → AreRanked ys → IsStableByKey rank nat_cmp (map see xs) (map see ys)
  stable-seen any is xs ys stable ranked_xs ranked_ys y =
      filter-seen y ys ranked_ys
      ∙ ap (λ n. map see (filter (λ x. same_rank n (key x)) ys)) (sym (is (rank y)))
      ∙ ap (map see) (stable (any (rank y)))
      ∙ ap (λ n. map see (filter (λ x. same_rank n (key x)) xs)) (is (rank y))
      ∙ sym (filter-seen y xs ranked_xs)
