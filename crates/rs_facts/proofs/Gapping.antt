-- GAPS has the row without columns, between the ends, where there is no row.
use Rattle.std.proofs.Common.{◌≡◌, ℕ, Bool, true, false, not, ◌&&◌, ◌||◌, cond, [], refl, sym, ap, ◌∙◌}
use Rattle.std.proofs.lemmas.Bool.{and_parts, and_from}
use Rattle.rs_value.specs.Row.{Row}
use Rattle.rs_facts.specs.Fact.{RowSet, none, contains}
use Rattle.rs_facts.specs.Insert.{within}
use Rattle.rs_facts.specs.Operators.{has_none, no_columns, gapped}
use Rattle.rs_facts.specs.OperatorLaws as laws
use Rattle.rs_facts.specs.OperatorLaws.{HasRow}
use Rattle.rs_facts.proofs.Placing.{within-true, within-bounds}
use Rattle.rs_facts.proofs.Rows.{same_row, same_row-true, same_row-refl, same_row-equal}
use Rattle.rs_facts.proofs.RowSets.{any_row, not_any, any-items, among-items, in_cond, contains-windowed}
use Rattle.rs_facts.proofs.Sets.{contains-none, contains-add}

-- ---- the row without columns

contains-no_columns : (row : Row) → contains no_columns row ≡ same_row [] row
contains-no_columns row = contains-add none [] row ∙ ap (λ t. same_row [] row || t) (contains-none row) ∙ or_false (same_row [] row)
  where
    or_false : (t : Bool) → (t || false) ≡ t
    or_false true = refl
    or_false false = refl

pub only_empty : (row : Row) → contains no_columns row ≡ true → row ≡ []
only_empty row e = sym (same_row-true [] row (sym (contains-no_columns row) ∙ e))

pub has_empty : contains no_columns [] ≡ true
has_empty = contains-no_columns [] ∙ same_row-refl []

-- ---- where there is no row

pub contains-gapped : (start finish k : ℕ) (rows : RowSet) (row : Row) → contains (gapped start finish k rows) row ≡ (within start finish k && (not (any_row rows) && same_row [] row))
unfolding gapped
contains-gapped start finish k rows row =
    contains-windowed start finish k (cond (has_none rows) no_columns none) row
    ∙ ap (λ t. within start finish k && t)
    (in_cond (has_none rows) no_columns row ∙ (λ i. sym (not_any rows (has_none rows) refl) i && contains-no_columns row i))

pub gaps-rows : laws.GapsAreWhereNoRowIs
gaps-rows start finish k rows row = (
  λ e.
      let parts = and_parts (within start finish k) _ (sym (contains-gapped start finish k rows row) ∙ e) in
      let inner = and_parts (not (any_row rows)) (same_row [] row) parts.1 in
      let ends = within-bounds start finish k parts.0 in
      record { from_start = ends.0; before_finish = ends.1; no_row = λ h. some rows inner.0 h; no_columns = sym (same_row-true [] row inner.1) },
  λ h. contains-gapped start finish k rows row ∙ and_from (within start finish k) _ (within-true start finish k h.from_start h.before_finish)
      (and_from (not (any_row rows)) (same_row [] row) (nowhere rows h.no_row) (same_row-equal [] row (sym h.no_columns))),
)
  where
    some : (rows : RowSet) → not (any_row rows) ≡ true → HasRow rows → ⊥
    some rows e h = let there = any-items (λ row. true) rows h.row h.among refl in let wrong : false ≡ true = sym (ap not there) ∙ e in cc

    nowhere : (rows : RowSet) → (HasRow rows → ⊥) → not (any_row rows) ≡ true
    nowhere rows h = elim (any_row rows) as (λ t. any_row rows ≡ t → not t ≡ true) [
      | true ↦ λ e. let one = among-items (λ row. true) rows e in absurd (h (record { row = one.row; among = one.among }))
      | false ↦ λ e. refl
    ] refl
