-- Rows inside a window: of nothing each operator makes nothing, so that it makes the rows there of its operands' rows there.
use Rattle.std.proofs.Common.{◌≡◌, ◌≤◌, ℕ, Bool, true, false, ◌&&◌, cond, max, min, List, [], ◌∷◌, ◌++◌, map, flat_map, Option, Some, None, refl, sym, ap, ◌∙◌, arith}
use Rattle.std.proofs.lemmas.Bool.{and_parts, and_from, ltb-false}
use Rattle.std.specs.Prelude.{nat_lt, ◌==◌}
use Rattle.rs_value.specs.Row.{Row}
use Rattle.rs_facts.specs.Condition.{Condition}
use Rattle.rs_facts.specs.Fact.{RowSet, none, items, keep}
use Rattle.rs_facts.specs.Insert.{within}
use Rattle.rs_facts.specs.Operators.{from_rows, mapped, dissolved, overlaid, covered, merged, without, windowed, gapped, has_none, no_columns, nulls, are_none}
use Rattle.rs_facts.specs.Query.{RouteEnds, gapped_on}
use Rattle.rs_facts.proofs.Placing.{within-true, within-bounds}
use Rattle.rs_facts.proofs.RowSets.{either-way, contains-keep}
use Rattle.rs_facts.proofs.Sets.{contains-none, same_rows}
use Rattle.rs_planning.specs.Plan.{met_by_each}
use Rattle.rs_plan.specs.declared.plan.PlannedWindow.{PlannedWindow}
use Rattle.rs_plan.specs.declared.plan.PlannedWindow.TheVariants as variants
use Rattle.rs_exec.specs.Meaning.{route_number, seen_on_its_route, seen_through, seen_through_each}
use Rattle.rs_total.proofs.SpanSums.{items-none}
use Rattle.rs_answers.specs.Within.{ends_within}

-- ---- operators of nothing

keep-nothing : (test : Row → Bool) → keep test none ≡ none
keep-nothing test = same_rows _ _ (λ row. contains-keep test none row ∙ ap (λ t. t && test row) (contains-none row) ∙ sym (contains-none row))

pub met-nothing : (conditions : List Condition) → met_by_each conditions none ≡ none
met-nothing conditions = keep-nothing _

pub mapped-nothing : (change : Row → Row) → mapped change none ≡ none
unfolding mapped
mapped-nothing change = ap (λ rows. from_rows (map change rows)) items-none

pub dissolved-nothing : (columns : List ℕ) → dissolved columns none ≡ none
unfolding dissolved
dissolved-nothing columns = mapped-nothing _

pub overlaid-nothing : (rows : RowSet) → overlaid none rows ≡ none
unfolding overlaid
overlaid-nothing rows = ap (λ firsts. from_rows (flat_map (λ x. map (λ y. x ++ y) (items rows)) firsts)) items-none

pub covered-nothing : (m n : ℕ) → covered m n none none ≡ none
unfolding covered
covered-nothing m n =
    ap (λ rows. cond (are_none rows) (mapped (λ y. nulls m ++ y) none) (cond (are_none rows) (mapped (λ x. x ++ nulls n) none) (overlaid none none))) items-none
    ∙ mapped-nothing (λ y. nulls m ++ y)

pub merged-nothing : merged none none ≡ none
unfolding merged
merged-nothing = ap (λ rows. from_rows (rows ++ rows)) items-none

pub without-nothing : (rows : RowSet) → without none rows ≡ none
unfolding without
without-nothing rows = keep-nothing _

pub windowed-nothing : (from to k : ℕ) → windowed from to k none ≡ none
unfolding windowed
windowed-nothing from to k = elim (within from to k) as (λ t. cond t none none ≡ none) [ true ↦ refl | false ↦ refl ]

own_route-nothing : (window : PlannedWindow) (k : ℕ) → seen_on_its_route window k none ≡ none
own_route-nothing (variants.Whole route) k = refl
own_route-nothing (variants.Part route from to) k = windowed-nothing from to k

window-nothing : (window : PlannedWindow) (route k : ℕ) → seen_through window route k none ≡ none
window-nothing window route k = elim (route_number window == route) as (λ t. cond t (seen_on_its_route window k none) none ≡ none) [ true ↦ own_route-nothing window k | false ↦ refl ]

pub seen-nothing : (windows : List PlannedWindow) (route k : ℕ) → seen_through_each windows route k none ≡ none
seen-nothing [] route k = refl
seen-nothing (window ∷ windows) route k = ap (seen_through window route k) (seen-nothing windows route k) ∙ window-nothing window route k

-- ---- of what is inside the window

module _ (from to k : ℕ) where
  pub of-window : (operator : RowSet → RowSet) (rows : RowSet) → operator none ≡ none → operator (windowed from to k rows) ≡ windowed from to k (operator rows)
  unfolding windowed
  of-window operator rows nothing = elim (within from to k) as (λ t. operator (cond t rows none) ≡ cond t (operator rows) none) [ true ↦ refl | false ↦ nothing ]

  pub of-windows : (operator : RowSet → RowSet → RowSet) (a b : RowSet) → operator none none ≡ none → operator (windowed from to k a) (windowed from to k b) ≡ windowed from to k (operator a b)
  unfolding windowed
  of-windows operator a b nothing = elim (within from to k) as (λ t. operator (cond t a none) (cond t b none) ≡ cond t (operator a b) none) [ true ↦ refl | false ↦ nothing ]

  -- what an operator makes inside, it makes of what is inside
  pub of-inside : (operator : RowSet → RowSet) (rows : RowSet) → windowed from to k (operator (windowed from to k rows)) ≡ windowed from to k (operator rows)
  unfolding windowed
  of-inside operator rows = elim (within from to k) as (λ t. cond t (operator (cond t rows none)) none ≡ cond t (operator rows) none) [ true ↦ refl | false ↦ refl ]

-- ---- between the ends inside the window

within_both : (a b c d k : ℕ) → within (max a b) (min c d) k ≡ (within b d k && within a c k)
within_both a b c d k = either-way _ _
    (λ e. let h = within-bounds (max a b) (min c d) k e in and_from (within b d k) (within a c k) (within-true b d k (omega (arith, h.0)) (omega (arith, h.1))) (within-true a c k (omega (arith, h.0)) (omega (arith, h.1))))
    (λ e. let p = and_parts (within b d k) (within a c k) e in let x = within-bounds b d k p.0 in let y = within-bounds a c k p.1 in within-true (max a b) (min c d) k (omega (arith, x.0, y.0)) (omega (arith, x.1, y.1)))

pub windowed-twice : (a b c d k : ℕ) (rows : RowSet) → windowed (max a b) (min c d) k rows ≡ windowed b d k (windowed a c k rows)
unfolding windowed
windowed-twice a b c d k rows =
    ap (λ t. cond t rows none) (within_both a b c d k)
    ∙ elim (within b d k) as (λ t. cond (t && within a c k) rows none ≡ cond t (cond (within a c k) rows none) none) [ true ↦ refl | false ↦ refl ]

pub windowed-off : (from to k : ℕ) (rows : RowSet) → to ≤ from → windowed from to k rows ≡ none
unfolding windowed
windowed-off from to k rows empty = elim (within from to k) as (λ t. within from to k ≡ t → cond t rows none ≡ none) [
  | true ↦ λ e. let b = within-bounds from to k e in absurd (omega (arith, b.0, b.1, empty))
  | false ↦ λ e. refl
] refl

gapped_within : (from to k : ℕ) (ends : Option RouteEnds) (rows : RowSet) → gapped_on (ends_within from to ends) k rows ≡ windowed from to k (gapped_on ends k rows)
unfolding gapped
gapped_within from to k None rows = sym (windowed-nothing from to k)
gapped_within from to k (Some ends) rows =
    elim (nat_lt start finish) as (λ t. nat_lt start finish ≡ t → gapped_on (cond t (Some (record { start = start; finish = finish })) None) k rows ≡ windowed from to k (gapped_on (Some ends) k rows)) [
      | true ↦ λ e. windowed-twice ends.start from ends.finish to k found
      | false ↦ λ e. sym (sym (windowed-twice ends.start from ends.finish to k found) ∙ windowed-off start finish k found (ltb-false start finish e))
    ] refl
  where
    start : ℕ
    start = max ends.start from

    finish : ℕ
    finish = min ends.finish to

    found : RowSet
    found = cond (has_none rows) no_columns none

-- GAPS of what is inside, between the ends inside
pub gaps-within : (from to k : ℕ) (ends : Option RouteEnds) (rows : RowSet) → gapped_on (ends_within from to ends) k (windowed from to k rows) ≡ windowed from to k (gapped_on ends k rows)
gaps-within from to k ends rows = gapped_within from to k ends (windowed from to k rows) ∙ of-inside from to k (gapped_on ends k) rows
