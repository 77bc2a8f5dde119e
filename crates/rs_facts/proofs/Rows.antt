-- The order of rows is total, and only equal rows tie. The test whether two rows are one.
use Rattle.std.proofs.Common.{◌≡◌, Bool, true, false, Ordering, Less, Equal, Greater, refl, ap, subst, is_eq, ◌⊎◌, inl, inr}
use Rattle.std.proofs.lemmas.Cmp.{eq_by_cmp_equiv, tied_itself}
use Rattle.std.specs.Cmp.{IsTotalOrder}
use Rattle.std.specs.FinMap.{IsAntisymmetric}
use Rattle.std.specs.Ordering.{eq_by_cmp}
use Rattle.rs_value.specs.Row.{Row, row_cmp}
use Rattle.rs_value.specs.RowOrder.{row_total, row_antisymmetric}

pub row_cmp-total : IsTotalOrder row_cmp
row_cmp-total = row_total

pub row_cmp-antisymmetric : IsAntisymmetric row_cmp
row_cmp-antisymmetric = row_antisymmetric

-- ---- whether two rows are one

unfoldable pub same_row : Row → Row → Bool
same_row a b = eq_by_cmp row_cmp a b

pub same_row-refl : (a : Row) → same_row a a ≡ true
unfolding same_row
same_row-refl a = ap is_eq (tied_itself row_cmp-total a)

pub same_row-symm : (a b : Row) → same_row a b ≡ same_row b a
unfolding same_row
same_row-symm a b = (eq_by_cmp_equiv row_cmp-total).symm a b

is_equal : (o : Ordering) → is_eq o ≡ true → o ≡ Equal
is_equal Less e = cc
is_equal Equal e = refl
is_equal Greater e = cc

pub same_row-true : (a b : Row) → same_row a b ≡ true → a ≡ b
unfolding same_row
same_row-true a b e = row_cmp-antisymmetric a b (is_equal (row_cmp a b) e)

pub same_row-equal : (a b : Row) → a ≡ b → same_row a b ≡ true
same_row-equal a b e = subst (λ r. same_row a r ≡ true) e (same_row-refl a)

pub same_row-false : (a b : Row) → same_row a b ≡ false → a ≡ b → ⊥
same_row-false a b e h = let t : same_row a b ≡ true = same_row-equal a b h in cc

pub same_row-apart : (a b : Row) → (a ≡ b → ⊥) → same_row a b ≡ false
same_row-apart a b apart = elim (same_row a b) as (λ t. same_row a b ≡ t → t ≡ false) [ true ↦ λ e. absurd (apart (same_row-true a b e)) | false ↦ λ e. refl ] refl

-- one row or two
pub cases_row : (a b : Row) → (a ≡ b) ⊎ (same_row a b ≡ false)
cases_row a b = elim (same_row a b) as (λ t. same_row a b ≡ t → (a ≡ b) ⊎ (same_row a b ≡ false)) [ true ↦ λ e. inl (same_row-true a b e) | false ↦ λ e. inr e ] refl

pub row_cmp-itself : (a : Row) → row_cmp a a ≡ Equal
row_cmp-itself a = tied_itself row_cmp-total a

pub row_cmp-less_apart : (a b : Row) → row_cmp a b ≡ Less → a ≡ b → ⊥
row_cmp-less_apart a b less e = let t : row_cmp a b ≡ Equal = subst (λ r. row_cmp a r ≡ Equal) e (row_cmp-itself a) in cc

pub row_cmp-back : (a b : Row) → row_cmp a b ≡ Greater → row_cmp b a ≡ Less
row_cmp-back a b greater = let t = row_cmp-total.antisymm b a in rw greater at t

pub row_cmp-on : (a b c : Row) → row_cmp a b ≡ Less → row_cmp b c ≡ Less → row_cmp a c ≡ Less
row_cmp-on = row_cmp-total.trans
