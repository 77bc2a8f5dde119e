-- What follows a cell at once: the cell with a zero after it.
use Rattle.std.proofs.Common.{◌≡◌, ℕ, zero, suc, true, false, List, [], ◌∷◌, ◌++◌, refl, sym, ap, ◌∙◌, arith}
use Rattle.std.proofs.lemmas.Bool.{false≢true}
use Rattle.std.proofs.lemmas.Cmp.{nat_cmp_total, tied_itself}
use Rattle.std.specs.Cmp.{nat_cmp_is}
use Rattle.std.specs.Cmp.Lexicographic.{slice_cmp}
use Rattle.std.specs.FinMap.{nat_cmp-IsAntisymmetric}
use Rattle.std.specs.Ordering.{is_lt, nat_cmp, ordering_then}
use Rattle.std.specs.declared.cmp.Ordering.{Ordering}
use Rattle.std.specs.declared.cmp.Ordering.TheVariants.{Less, Equal, Greater}
use Rattle.rs_records.specs.Order.{is_below}

more_above : (x : ℕ) (bytes : List ℕ) → slice_cmp nat_cmp bytes (bytes ++ x ∷ []) ≡ Less
more_above x [] = refl
more_above x (b ∷ bs) = ap (λ (o : Ordering). ordering_then o (slice_cmp nat_cmp bs (bs ++ x ∷ []))) (tied_itself nat_cmp_total b) ∙ more_above x bs

nothing_between : (x bytes : List ℕ) → is_lt (slice_cmp nat_cmp x bytes) ≡ false → is_lt (slice_cmp nat_cmp x (bytes ++ 0 ∷ [])) ≡ true → x ≡ bytes
nothing_between [] [] not_below below = refl
nothing_between [] (b ∷ bs) not_below below = absurd (false≢true (sym not_below))
nothing_between (zero ∷ []) [] not_below below = absurd (false≢true below)
nothing_between (zero ∷ (a ∷ as')) [] not_below below = absurd (false≢true below)
nothing_between (suc n ∷ as') [] not_below below =
    let more : nat_cmp (suc n) 0 ≡ Greater = sym (nat_cmp_is (suc n) 0 Greater (omega arith)) in
    absurd (false≢true (sym (ap (λ (o : Ordering). is_lt (ordering_then o (slice_cmp nat_cmp as' []))) more) ∙ below))
nothing_between (a ∷ as') (b ∷ bs) not_below below = by_order (nat_cmp a b) refl not_below below (nothing_between as' bs) where
  by_order : (o : Ordering) → nat_cmp a b ≡ o → is_lt (ordering_then o (slice_cmp nat_cmp as' bs)) ≡ false → is_lt (ordering_then o (slice_cmp nat_cmp as' (bs ++ 0 ∷ []))) ≡ true
      → (is_lt (slice_cmp nat_cmp as' bs) ≡ false → is_lt (slice_cmp nat_cmp as' (bs ++ 0 ∷ [])) ≡ true → as' ≡ bs) → a ∷ as' ≡ b ∷ bs
  by_order Less e low high rest = absurd (false≢true (sym low))
  by_order Equal e low high rest = ap (λ (n : ℕ). n ∷ as') (nat_cmp-IsAntisymmetric a b e) ∙ ap (λ (l : List ℕ). b ∷ l) (rest low high)
  by_order Greater e low high rest = absurd (false≢true high)

-- a cell is below what follows it
pub below_next : (cell : List ℕ) → is_below cell (cell ++ 0 ∷ []) ≡ true
unfolding is_below
below_next cell = ap is_lt (more_above 0 cell)

-- nothing lies between
pub next_alone : (x cell : List ℕ) → is_below x cell ≡ false → is_below x (cell ++ 0 ∷ []) ≡ true → x ≡ cell
unfolding is_below
next_alone x cell not_below below = nothing_between x cell not_below below
