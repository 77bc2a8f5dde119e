-- How often the sweep over two lists compares at the least.
use Rattle.std.proofs.Common.{◌≡◌, ℕ, ◌+◌, ◌-◌, ◌*◌, ◌^◌, ◌≤◌, min, max, false, List, [], ◌∷◌, length, count_by, ◌⊎◌, refl, inl, inr, ap, ◌∙◌, arith}
use Rattle.std.proofs.lemmas.Bool.{le-ltb}
use Rattle.std.proofs.lemmas.List.Sums.{sum_by-cons}
use Rattle.rs_facts.specs.Runs.{Stretch}
use Rattle.rs_sweep.specs.Inner.{laid}
use Rattle.rs_sweep.specs.Lists.{AreSorted, shares, pairs}
use Rattle.rs_sweep.specs.declared.laying.Side.TheVariants.{Left, Right}
use Rattle.rs_sweep.proofs.LaidSpans.{laid-many}
use Rattle.rs_sweep.proofs.SweptPairs.{pairs-left, pairs-right}

-- So many comparisons at the least were made or are still to be made: one for each span of the shorter list that is left, and
-- two for each pair that shares a thousandth. The count stops at 2^64 - 1.
pub record Counts (l r : List Stretch) (made least : ℕ) : Type 0 where
  pub counted : min least (2 ^ 64 - 1) ≤ made + min (length l) (length r) + 2 * pairs l r

pub counts-start : (left right : List Stretch) (made m n : ℕ) → length left ≡ m → length right ≡ n → Counts left right made (made + min m n + 2 * pairs left right)
counts-start left right made m n e f = record { counted = omega (arith, e, f) }

apart : (a b : Stretch) → a.hi ≤ b.lo → shares a b ≡ false
apart a b l = le-ltb (max a.lo b.lo) (min a.hi b.hi) (omega (arith, l))

apart_back : (a b : Stretch) → b.hi ≤ a.lo → shares a b ≡ false
apart_back a b l = le-ltb (max a.lo b.lo) (min a.hi b.hi) (omega (arith, l))

less : (least made later m n k count laid p q : ℕ) → min least (2 ^ 64 - 1) ≤ made + min m k + 2 * p → m ≡ n + 1 → p ≡ count + q → count ≤ laid → min (made + 1 + 2 * laid) (2 ^ 64 - 1) ≤ later
    → min least (2 ^ 64 - 1) ≤ later + min n k + 2 * q
less least made later m n k count laid p q h e f g asked = omega (arith, h, e, f, g, asked)

less_back : (least made later m n k count laid p q : ℕ) → min least (2 ^ 64 - 1) ≤ made + min k m + 2 * p → m ≡ n + 1 → p ≡ count + q → count ≤ laid → min (made + 1 + 2 * laid) (2 ^ 64 - 1) ≤ later
    → min least (2 ^ 64 - 1) ≤ later + min k n + 2 * q
less_back least made later m n k count laid p q h e f g asked = omega (arith, h, e, f, g, asked)

-- the first of the left was laid over the right
pub counts-left : (ls l rs : List Stretch) (a : Stretch) (made later least : ℕ) → ls ≡ a ∷ l → AreSorted rs → Counts ls rs made least → min (made + 1 + 2 * length (laid Left a rs)) (2 ^ 64 - 1) ≤ later → Counts l rs later least
counts-left ls l rs a made later least e sorted h asked = record {
  counted = less least made later (length ls) (length l) (length rs) (count_by (λ b. shares a b) rs) (length (laid Left a rs)) (pairs ls rs) (pairs l rs)
      h.counted (let long = ap length e in omega (arith, long)) (ap (λ zs. pairs zs rs) e ∙ pairs-left a l rs) (laid-many Left a rs (λ b. shares a b) (apart a) sorted) asked;
}

-- the first of the right was laid over the left
pub counts-right : (ls rs r : List Stretch) (b : Stretch) (made later least : ℕ) → rs ≡ b ∷ r → AreSorted ls → Counts ls rs made least → min (made + 1 + 2 * length (laid Right b ls)) (2 ^ 64 - 1) ≤ later → Counts ls r later least
counts-right ls rs r b made later least e sorted h asked = record {
  counted = less_back least made later (length rs) (length r) (length ls) (count_by (λ a. shares a b) ls) (length (laid Right b ls)) (pairs ls rs) (pairs ls r)
      h.counted (let long = ap length e in omega (arith, long)) (ap (λ zs. pairs ls zs) e ∙ pairs-right b ls r) (laid-many Right b ls (λ a. shares a b) (λ a. apart_back a b) sorted) asked;
}

no_right : (l : List Stretch) → pairs l [] ≡ 0
unfolding pairs
no_right [] = refl
no_right (a ∷ l) = let one = sum_by-cons (λ a. count_by (λ b. shares a b) []) a l in let rest = no_right l in omega (arith, one, rest)

no_left : (r : List Stretch) → pairs [] r ≡ 0
unfolding pairs
no_left r = refl

-- one of the lists is done
pub counts-end : (l r : List Stretch) (made least : ℕ) → (l ≡ []) ⊎ (r ≡ []) → Counts l r made least → min least (2 ^ 64 - 1) ≤ made
counts-end l r made least (inl e) h = let none = ap (λ zs. pairs zs r) e ∙ no_left r in let long = ap length e in omega (arith, h.counted, none, long)
counts-end l r made least (inr e) h = let none = ap (λ zs. pairs l zs) e ∙ no_right l in let long = ap length e in omega (arith, h.counted, none, long)
