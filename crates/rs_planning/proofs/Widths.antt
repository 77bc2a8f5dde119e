-- How wide the rows of a query are.
use Rattle.std.proofs.Common.{◌≡◌, ℕ, ◌+◌, ◌&&◌, ◌||◌, Bool, true, false, ◌⊎◌, List, [], ◌++◌, length, Option, Some, None, inl, inr, refl, sym, ap, ◌∙◌, subst}
use Rattle.std.specs.FinMap as names
use Rattle.std.proofs.Math.ListN.{length-set, length-replicate}
use Rattle.std.proofs.lemmas.Bool.{and_parts, or_cases}
use Rattle.std.proofs.lemmas.List.{length-append, length-map}
use Rattle.rs_value.specs.Row.{null, Row}
use Rattle.rs_facts.specs.Fact.{Name, RowSet, contains}
use Rattle.rs_facts.specs.Condition.{meets}
use Rattle.rs_facts.specs.Operators.{nulls, chosen, mapped, dissolved, overlaid, covered}
use Rattle.rs_facts.specs.Query.{RouteEnds, World, facts_of, table_columns, column_at, gapped_on, Query, table_rows, where_rows, dissolve_rows, rename_column, overlay_rows, cover_rows, merge_rows, minus_rows, window_rows, transform_rows, gaps_rows, rows_at, columns_of}
use Rattle.rs_facts.specs.WellFormed.{width_of, IsWellFormed}
use Rattle.rs_facts.proofs.Gapping.{gaps-rows}
use Rattle.rs_facts.proofs.RowSets.{contains-keep, contains-merged, contains-without, contains-covered}
use Rattle.rs_facts.proofs.Transforming.{transformed-rows}
use Rattle.rs_planning.specs.Checked.{RowsHaveTheirWidth}
use Rattle.rs_planning.proofs.Shown.{in_none, changed, pairs, contains-seen}

length-nulls : (n : ℕ) → length (nulls n) ≡ n
unfolding nulls
length-nulls n = length-replicate n null

length-chosen : (columns : List ℕ) (row : Row) → length (chosen columns row) ≡ length columns
unfolding chosen
length-chosen columns row = length-map columns _

-- a row of COVER is one of OVERLAY, or one of either operand beside NULLs
cover-cases : (m n : ℕ) (a b : RowSet) (row : Row) → contains (covered m n a b) row ≡ true
    → (contains (overlaid a b) row ≡ true) ⊎ ((contains (mapped (λ x. x ++ nulls n) a) row ≡ true) ⊎ (contains (mapped (λ y. nulls m ++ y) b) row ≡ true))
cover-cases m n a b row e = by _ _ _ _ _ (sym (contains-covered m n a b row) ∙ e)
  where
    by : (o p q r s : Bool) → (o || (p && q) || (r && s)) ≡ true → (o ≡ true) ⊎ ((q ≡ true) ⊎ (s ≡ true))
    by true p q r s e = inl refl
    by false true true r s e = inr (inl refl)
    by false true false r s e = inr (inr (and_parts r s e).1)
    by false false q r s e = inr (inr (and_parts r s e).1)

gap-empty : (ends : Option RouteEnds) (k : ℕ) (rows : RowSet) (row : Row) → contains (gapped_on ends k rows) row ≡ true → row ≡ []
gap-empty (Some ends) k rows row e = ((gaps-rows ends.start ends.finish k rows row).0 e).no_columns
gap-empty None k rows row e = absurd (in_none row e)

module _ (world : World) (have : RowsHaveTheirWidth world) where
  pub rows-wide : (query : Query) → IsWellFormed world query → (route : Name) (k : ℕ) (row : Row) → contains (rows_at world query route k) row ≡ true → length row ≡ width_of world query
  unfolding dissolved
  rows-wide (table_rows name) wf route k row e =
      have name wf.0 wf.1 route k row (subst (λ o. contains (facts_of o route k) row ≡ true) wf.1 e)
      ∙ ap (λ o. length (table_columns o)) (sym wf.1)
  rows-wide (where_rows query condition) wf route k row e =
      rows-wide query wf route k row (and_parts _ (meets condition row) (sym (contains-keep (meets condition) (rows_at world query route k) row) ∙ e)).0
  rows-wide (dissolve_rows query columns) wf route k row e =
      let one = (changed (chosen columns) (rows_at world query route k) row).0 e in
      ap length one.is ∙ length-chosen columns one.from ∙ sym (length-map columns (column_at (columns_of world query)))
  rows-wide (rename_column query column name) wf route k row e = rows-wide query wf route k row e ∙ sym (length-set (columns_of world query) column _)
  rows-wide (overlay_rows a b) wf route k row e =
      let pair = (pairs (rows_at world a route k) (rows_at world b route k) row).0 e in
      ap length pair.together ∙ length-append pair.left pair.right
      ∙ (λ i. rows-wide a wf.0 route k pair.left pair.in_first i + rows-wide b wf.1 route k pair.right pair.in_second i)
      ∙ sym (length-append (columns_of world a) (columns_of world b))
  rows-wide (cover_rows m n a b) wf route k row e =
      elim (cover-cases m n (rows_at world a route k) (rows_at world b route k) row e) [
        | inl both ↦
            let pair = (pairs (rows_at world a route k) (rows_at world b route k) row).0 both in
            ap length pair.together ∙ length-append pair.left pair.right
            ∙ (λ i. rows-wide a wf.0 route k pair.left pair.in_first i + rows-wide b wf.1 route k pair.right pair.in_second i)
            ∙ sym (length-append (columns_of world a) (columns_of world b))
        | inr (inl first) ↦
            let one = (changed (λ x. x ++ nulls n) (rows_at world a route k) row).0 first in
            ap length one.is ∙ length-append one.from (nulls n)
            ∙ (λ i. rows-wide a wf.0 route k one.from one.among i + (length-nulls n ∙ wf.4) i)
            ∙ sym (length-append (columns_of world a) (columns_of world b))
        | inr (inr second) ↦
            let one = (changed (λ y. nulls m ++ y) (rows_at world b route k) row).0 second in
            ap length one.is ∙ length-append (nulls m) one.from
            ∙ (λ i. (length-nulls m ∙ wf.3) i + rows-wide b wf.1 route k one.from one.among i)
            ∙ sym (length-append (columns_of world a) (columns_of world b))
      ]
  rows-wide (merge_rows a b) wf route k row e =
      elim (or_cases _ _ (sym (contains-merged (rows_at world a route k) (rows_at world b route k) row) ∙ e)) [
        | inl first ↦ rows-wide a wf.0 route k row first
        | inr second ↦ rows-wide b wf.1 route k row second ∙ sym wf.3
      ]
  rows-wide (minus_rows a b) wf route k row e = rows-wide a wf.0 route k row (and_parts _ _ (sym (contains-without (rows_at world a route k) (rows_at world b route k) row) ∙ e)).0
  rows-wide (window_rows query window) wf route k row e = rows-wide query wf route k row (contains-seen window route k (rows_at world query route k) row e)
  rows-wide (transform_rows query name pieces) wf route k row e =
      let carried = (transformed-rows pieces (rows_at world query) route k row).0 e in
      rows-wide query wf.0 carried.piece.from_route carried.is_carried.k row carried.is_carried.among
  rows-wide (gaps_rows query) wf route k row e = ap length (gap-empty (names.get world.routes route) k (rows_at world query route k) row e)
