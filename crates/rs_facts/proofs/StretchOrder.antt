-- The printing order of stretches: by place, then by row.
use Rattle.std.proofs.Common.{◌≡◌, ℕ, ◌<◌, cond, ◌==◌, ◌⊎◌, inl, inr, Ordering, Less, Equal, Greater, refl, sym, ap, ◌∙◌, subst, nat_cmp, lt-ltb}
use Rattle.std.proofs.lemmas.Cmp.{nat_cmp_total, on_total, then_total, tied_itself, ranked}
use Rattle.std.specs.Cmp.{IsTotalOrder}
use Rattle.std.specs.Ordering.{ordering_then}
use Rattle.rs_value.specs.Row.{row_cmp}
use Rattle.rs_facts.specs.Runs.{Stretch, stretch_cmp}
use Rattle.rs_facts.proofs.Rows.{row_cmp-total, row_cmp-antisymmetric}

pub stretch_cmp-total : IsTotalOrder stretch_cmp
unfolding stretch_cmp
stretch_cmp-total = then_total (on_total (λ (s : Stretch). s.lo) nat_cmp_total) (on_total (λ (s : Stretch). s.row) row_cmp-total)

pub stretch_cmp-itself : (a : Stretch) → stretch_cmp a a ≡ Equal
stretch_cmp-itself a = tied_itself stretch_cmp-total a

pub stretch_cmp-on : (a b c : Stretch) → stretch_cmp a b ≡ Less → stretch_cmp b c ≡ Less → stretch_cmp a c ≡ Less
stretch_cmp-on = stretch_cmp-total.trans

pub nat_cmp-below : (a b : ℕ) → a < b → nat_cmp a b ≡ Less
nat_cmp-below a b h = ap (λ t. cond t Less (cond (a == b) Equal Greater)) (lt-ltb a b h)

pub nat_cmp-same : (a b : ℕ) → a ≡ b → nat_cmp a b ≡ Equal
nat_cmp-same a b h = subst (λ x. nat_cmp a x ≡ Equal) h (tied_itself nat_cmp_total a)

pub nat_cmp-less : (a b : ℕ) → nat_cmp a b ≡ Less → a < b
nat_cmp-less a b e = ranked a b Less (sym e)

pub nat_cmp-equal : (a b : ℕ) → nat_cmp a b ≡ Equal → a ≡ b
nat_cmp-equal a b e = ranked a b Equal (sym e)

pub nat_cmp-greater : (a b : ℕ) → nat_cmp a b ≡ Greater → b < a
nat_cmp-greater a b e = ranked a b Greater (sym e)

-- which of two orders made the first one less
pub then-less : (a b : Ordering) → ordering_then a b ≡ Less → (a ≡ Less) ⊎ ((a ≡ Equal) × (b ≡ Less))
then-less Less b e = inl refl
then-less Equal b e = inr (refl, e)
then-less Greater b e = cc

pub then-equal : (a b : Ordering) → ordering_then a b ≡ Equal → (a ≡ Equal) × (b ≡ Equal)
then-equal Less b e = cc
then-equal Equal b e = (refl, e)
then-equal Greater b e = cc

pub stretch_cmp-below : (a b : Stretch) → a.lo < b.lo → stretch_cmp a b ≡ Less
unfolding stretch_cmp
stretch_cmp-below a b h = ap (λ o. ordering_then o (row_cmp a.row b.row)) (nat_cmp-below a.lo b.lo h)

pub stretch_cmp-beside : (a b : Stretch) → a.lo ≡ b.lo → row_cmp a.row b.row ≡ Less → stretch_cmp a b ≡ Less
unfolding stretch_cmp
stretch_cmp-beside a b h l = ap (λ o. ordering_then o (row_cmp a.row b.row)) (nat_cmp-same a.lo b.lo h) ∙ l

pub stretch_cmp-less : (a b : Stretch) → stretch_cmp a b ≡ Less → (a.lo < b.lo) ⊎ ((a.lo ≡ b.lo) × (row_cmp a.row b.row ≡ Less))
unfolding stretch_cmp
stretch_cmp-less a b e = elim (then-less (nat_cmp a.lo b.lo) (row_cmp a.row b.row) e) [
  | inl l ↦ inl (nat_cmp-less a.lo b.lo l)
  | inr t ↦ inr (nat_cmp-equal a.lo b.lo t.0, t.1)
]

pub stretch_cmp-tie : (a b : Stretch) → stretch_cmp a b ≡ Equal → (a.lo ≡ b.lo) × (a.row ≡ b.row)
unfolding stretch_cmp
stretch_cmp-tie a b e = let t = then-equal (nat_cmp a.lo b.lo) (row_cmp a.row b.row) e in (nat_cmp-equal a.lo b.lo t.0, row_cmp-antisymmetric a.row b.row t.1)

pub stretch_cmp-less_apart : (a b : Stretch) → stretch_cmp a b ≡ Less → a ≡ b → ⊥
stretch_cmp-less_apart a b less e = let t : stretch_cmp a b ≡ Equal = subst (λ r. stretch_cmp a r ≡ Equal) e (stretch_cmp-itself a) in cc

pub stretch_cmp-one_way : (a b : Stretch) → stretch_cmp a b ≡ Less → stretch_cmp b a ≡ Less → ⊥
stretch_cmp-one_way a b h l = let t : stretch_cmp a a ≡ Less = stretch_cmp-on a b a h l in let u = stretch_cmp-itself a in cc
