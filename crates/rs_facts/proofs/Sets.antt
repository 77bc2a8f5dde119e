-- Sets of rows: what they contain, and that sets with the same rows are one.
use Rattle.std.proofs.Common.{◌≡◌, ℕ, Bool, true, false, ◌||◌, cond, Option, Some, None, is_some, refl, ap, ◌∙◌}
use Rattle.std.specs.FinMap as map
use Rattle.rs_value.specs.Row.{Row, row_cmp}
use Rattle.rs_facts.specs.Fact.{RowSet, none, contains, add, Places}
use Rattle.rs_facts.proofs.Rows.{row_cmp-total, row_cmp-antisymmetric, same_row, same_row-symm}

pub contains-none : (row : Row) → contains none row ≡ false
contains-none row = ap is_some (map.get-empty row_cmp row)

some_of_cond : (b : Bool) (o : Option (Unit {0})) → is_some (cond b (Some tt) o) ≡ (b || is_some o)
some_of_cond true o = refl
some_of_cond false o = refl

pub contains-add : (rows : RowSet) (a b : Row) → contains (add rows a) b ≡ (same_row a b || contains rows b)
unfolding same_row
contains-add rows a b = ap is_some (map.get-insert row_cmp-total rows a tt b) ∙ some_of_cond _ _ ∙ ap (λ t. t || contains rows b) (same_row-symm b a)

same_option : (a b : Option (Unit {0})) → is_some a ≡ is_some b → a ≡ b
same_option None None e = refl
same_option None (Some y) e = cc
same_option (Some x) None e = cc
same_option (Some x) (Some y) e = refl

pub same_rows : (s t : RowSet) → ((row : Row) → contains s row ≡ contains t row) → s ≡ t
same_rows s t alike = map.same_map row_cmp-total row_cmp-antisymmetric s t (λ row. same_option _ _ (alike row))

pub same_places : (p q : Places) → ((k : ℕ) (row : Row) → contains (p k) row ≡ contains (q k) row) → p ≡ q
same_places p q alike i k = same_rows (p k) (q k) (alike k) i
