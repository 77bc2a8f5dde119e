-- The order of records is total, and only equal records tie.
use Rattle.std.proofs.Common.{◌≡◌, ◌⊎◌, ℕ, true, false, List, Ordering, refl, inl, inr}
use Rattle.std.specs.Ordering.{nat_cmp, is_lt, ordering_reverse}
use Rattle.std.specs.Prelude.{IsTrue}
use Rattle.std.specs.declared.cmp.Ordering.TheVariants.{Less, Equal, Greater}
use Rattle.std.specs.Cmp.Lexicographic.{slice_cmp, nat_list_cmp_total}
use Rattle.std.specs.FinMap.{slice_cmp-IsAntisymmetric, nat_cmp-IsAntisymmetric}
use Rattle.std.proofs.lemmas.Cmp.{tied_itself}
use Rattle.rs_records.specs.Order.{is_below}

less_told : (o : Ordering) → is_lt o ≡ true → o ≡ Less
less_told Less e = refl
less_told Equal e = cc
less_told Greater e = cc

pub is_below-self : (one : List ℕ) → is_below one one ≡ false
unfolding is_below
is_below-self one = rw (tied_itself nat_list_cmp_total one) refl

pub is_below-trans : (one two three : List ℕ) → IsTrue (is_below one two) → IsTrue (is_below two three) → IsTrue (is_below one three)
unfolding is_below
is_below-trans one two three a b =
    let less : slice_cmp nat_cmp one three ≡ Less = nat_list_cmp_total.trans one two three (less_told (slice_cmp nat_cmp one two) a) (less_told (slice_cmp nat_cmp two three) b) in
    rw less refl

by_order : (o back : Ordering) (one other : List ℕ) → back ≡ ordering_reverse o → (o ≡ Equal → one ≡ other) → is_lt o ≡ true ⊎ (one ≡ other) ⊎ is_lt back ≡ true
by_order Less back one other e same = inl refl
by_order Equal back one other e same = inr (inl (same refl))
by_order Greater back one other e same = inr (inr (rw e refl))

pub is_below-cases : (one other : List ℕ) → is_below one other ≡ true ⊎ (one ≡ other) ⊎ is_below other one ≡ true
unfolding is_below
is_below-cases one other =
    by_order (slice_cmp nat_cmp one other) (slice_cmp nat_cmp other one) one other (nat_list_cmp_total.antisymm other one) (λ e. slice_cmp-IsAntisymmetric nat_cmp-IsAntisymmetric one other e)
