-- What the operators make, said of single rows.
use Rattle.std.proofs.Common.{◌≡◌, ℕ, zero, suc, ◌<◌, Bool, true, false, not, ◌&&◌, ◌||◌, List, [], ◌∷◌, ◌++◌, length, get_or, Contains, refl, sym, ap, ◌∙◌, inl, inr, arith}
use Rattle.std.proofs.lemmas.Bool.{or_cases}
use Rattle.std.proofs.lemmas.List.Elements.{Contains-append_right}
use Rattle.std.specs.List.{list_any}
use Rattle.rs_value.specs.Row.{Row}
use Rattle.rs_facts.specs.Fact.{RowSet, none, contains, items}
use Rattle.rs_facts.specs.Operators.{mapped, nulls, chosen, dissolved, overlaid, covered}
use Rattle.rs_facts.specs.OperatorLaws as laws
use Rattle.rs_facts.specs.OperatorLaws.{IsPair, IsChanged, HasRow}
use Rattle.rs_facts.proofs.Rows.{same_row, same_row-true, same_row-equal}
use Rattle.rs_facts.proofs.Sets.{contains-none, same_rows}
use Rattle.rs_facts.proofs.RowSets.{any-items, among-items, any_row, contains-from_rows, contains-mapped, contains-overlaid, contains-covered}

listed : (rows : List Row) (row : Row) → list_any (λ other. same_row other row) rows ≡ true → Contains rows row
listed [] row e = absurd (let wrong : false ≡ true = e in cc)
listed (first ∷ rows) row e = elim (or_cases (same_row first row) (list_any (λ other. same_row other row) rows) e) [
  | inl here ↦ (0, omega arith, same_row-true first row here)
  | inr there ↦ Contains-append_right (first ∷ []) rows row (listed rows row there)
]

found : (rows : List Row) (row : Row) (i : ℕ) → i < length rows → get_or rows i row ≡ row → list_any (λ other. same_row other row) rows ≡ true
found [] row i below e = absurd (omega arith)
found (first ∷ rows) row zero below e = ap (λ t. t || list_any (λ other. same_row other row) rows) (same_row-equal first row e)
found (first ∷ rows) row (suc i) below e = ap (λ t. same_row first row || t) (found rows row i (omega arith) e) ∙ or_true (same_row first row)
  where
    or_true : (t : Bool) → (t || true) ≡ true
    or_true true = refl
    or_true false = refl

pub sets-have_rows : laws.SetsHaveTheirRows
sets-have_rows rows row = (
  λ e. listed rows row (sym (contains-from_rows rows row) ∙ e),
  λ h. contains-from_rows rows row ∙ found rows row h.0 h.1 h.2,
)

pub changed-rows : laws.ChangedRowsAreThose
changed-rows change rows row = (
  λ e.
      let one = among-items (λ from. same_row (change from) row) rows (sym (contains-mapped change rows row) ∙ e) in
      record { from = one.row; among = one.among; is = sym (same_row-true (change one.row) row one.passes) },
  λ h. contains-mapped change rows row ∙ any-items (λ from. same_row (change from) row) rows h.from h.among (same_row-equal (change h.from) row (sym h.is)),
)

pub dissolved-rows : laws.DissolvedRowsAreChosen
unfolding dissolved
dissolved-rows columns rows row = changed-rows (chosen columns) rows row

pub overlaid-rows : laws.OverlaidRowsArePairs
overlaid-rows a b row = (
  λ e.
      let one = among-items (λ x. list_any (λ y. same_row (x ++ y) row) (items b)) a (sym (contains-overlaid a b row) ∙ e) in
      let two = among-items (λ y. same_row (one.row ++ y) row) b one.passes in
      record { left = one.row; right = two.row; in_first = one.among; in_second = two.among; together = sym (same_row-true (one.row ++ two.row) row two.passes) },
  λ h. contains-overlaid a b row ∙ any-items (λ x. list_any (λ y. same_row (x ++ y) row) (items b)) a h.left h.in_first
      (any-items (λ y. same_row (h.left ++ y) row) b h.right h.in_second (same_row-equal (h.left ++ h.right) row (sym h.together))),
)

has_row : (rows : RowSet) → HasRow rows → any_row rows ≡ true
has_row rows h = any-items (λ row. true) rows h.row h.among refl

no_row : any_row none ≡ false
no_row = elim (any_row none) as (λ t. any_row none ≡ t → t ≡ false) [
  | true ↦ λ e. let one = among-items (λ row. true) none e in let free = contains-none one.row in cc
  | false ↦ λ e. refl
] refl

and_false : (t : Bool) → (t && false) ≡ false
and_false true = refl
and_false false = refl

or_false : (t : Bool) → (t || false) ≡ t
or_false true = refl
or_false false = refl

pub covered-both : laws.CoveredIsOverlaid
covered-both m n a b in_a in_b = same_rows _ _ (λ row.
    contains-covered m n a b row
    ∙ (λ i. contains (overlaid a b) row || (not (has_row b in_b i) && contains (mapped (λ x. x ++ nulls n) a) row) || (not (has_row a in_a i) && contains (mapped (λ y. nulls m ++ y) b) row))
    ∙ ap (λ t. t || false) (or_false (contains (overlaid a b) row))
    ∙ or_false (contains (overlaid a b) row))

nothing_left : (b : RowSet) (row : Row) → contains (overlaid none b) row ≡ false
nothing_left b row = elim (contains (overlaid none b) row) as (λ t. contains (overlaid none b) row ≡ t → t ≡ false) [
  | true ↦ λ e. let pair = (overlaid-rows none b row).0 e in let free = contains-none pair.left in let held = pair.in_first in cc
  | false ↦ λ e. refl
] refl

nothing_right : (a : RowSet) (row : Row) → contains (overlaid a none) row ≡ false
nothing_right a row = elim (contains (overlaid a none) row) as (λ t. contains (overlaid a none) row ≡ t → t ≡ false) [
  | true ↦ λ e. let pair = (overlaid-rows a none row).0 e in let free = contains-none pair.right in let held = pair.in_second in cc
  | false ↦ λ e. refl
] refl

nothing_mapped : (change : Row → Row) (row : Row) → contains (mapped change none) row ≡ false
nothing_mapped change row = elim (contains (mapped change none) row) as (λ t. contains (mapped change none) row ≡ t → t ≡ false) [
  | true ↦ λ e. let one = (changed-rows change none row).0 e in let free = contains-none one.from in let held = one.among in cc
  | false ↦ λ e. refl
] refl

before : (m n : ℕ) (b : RowSet) (row : Row) → contains (covered m n none b) row ≡ contains (mapped (λ y. nulls m ++ y) b) row
before m n b row =
    contains-covered m n none b row
    ∙ (λ i. nothing_left b row i || (not (any_row b) && nothing_mapped (λ x. x ++ nulls n) row i) || (not (no_row i) && contains (mapped (λ y. nulls m ++ y) b) row))
    ∙ ap (λ t. t || contains (mapped (λ y. nulls m ++ y) b) row) (and_false (not (any_row b)))

after : (m n : ℕ) (a : RowSet) (row : Row) → contains (covered m n a none) row ≡ contains (mapped (λ x. x ++ nulls n) a) row
after m n a row =
    contains-covered m n a none row
    ∙ (λ i. nothing_right a row i || (not (no_row i) && contains (mapped (λ x. x ++ nulls n) a) row) || (not (any_row a) && nothing_mapped (λ y. nulls m ++ y) row i))
    ∙ ap (λ t. contains (mapped (λ x. x ++ nulls n) a) row || t) (and_false (not (any_row a)))
    ∙ or_false (contains (mapped (λ x. x ++ nulls n) a) row)

pub covered-before : laws.CoveredOfNoneBefore
covered-before m n b row =
    let rows = changed-rows (λ y. nulls m ++ y) b row in
    (λ e. rows.0 (sym (before m n b row) ∙ e), λ h. before m n b row ∙ rows.1 h)

pub covered-after : laws.CoveredOfNoneAfter
covered-after m n a row =
    let rows = changed-rows (λ x. x ++ nulls n) a row in
    (λ e. rows.0 (sym (after m n a row) ∙ e), λ h. after m n a row ∙ rows.1 h)
