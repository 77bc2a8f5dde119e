-- The plans of a query are as wide together as the query, and the width of a checked query is counted so.
use Rattle.std.proofs.Common.{◌≡◌, ℕ, ◌+◌, ◌-◌, ◌^◌, ◌≤◌, List, [], ◌∷◌, ◌++◌, map, filter, min, length, refl, sym, ap, ◌∙◌, subst, arith}
use Rattle.std.specs.Prelude.{Vec, Box}
use Rattle.std.specs.declared.alloc.Global.{Global}
use Rattle.std.specs.List.{AllByRecursion}
use Rattle.std.proofs.Math.ListN.{length-set}
use Rattle.std.proofs.lemmas.List.{length-append, length-map}
use Rattle.std.proofs.lemmas.List.Sums.{sum_by-cons}
use Rattle.rs_facts.specs.Condition.{Condition}
use Rattle.rs_facts.specs.Query.{Window, column_at, Query, table_rows, where_rows, dissolve_rows, rename_column, overlay_rows, cover_rows, merge_rows, minus_rows, window_rows, transform_rows, gaps_rows, columns_of}
use Rattle.rs_facts.specs.WellFormed.{IsWellFormed, width_of}
use Rattle.rs_planning.specs.Basis.{Basis}
use Rattle.rs_planning.specs.Conjuncts.{conjuncts, is_of_left, is_of_right, is_of_both, under_right}
use Rattle.rs_planning.specs.Plan.{Plan, cover_node, transform_node, gaps_node, plan_width}
use Rattle.rs_planning.specs.Rule.{together, under_where, under_window, overlay_under_where, place}
use Rattle.rs_planning.proofs.Operands.{width_together, width-append, together-width}
use Rattle.rs_planning.specs.Numbered.{Numbered}
use Rattle.rs_checker.specs.declared.checked.CheckedQuery.{CheckedQuery}
use Rattle.arrayvec.specs.ArrayString.{ArrayString}
use Rattle.rs_facts.specs.declared.condition.Condition as code
use Rattle.rs_checker.specs.declared.checked.CheckedTable.{CheckedTable}
use Rattle.rs_checker.specs.declared.checked.LocatedWindow.{LocatedWindow}
use Rattle.rs_checker.specs.declared.checked.LocatedPiece.{LocatedPiece}
use Rattle.rs_checker.specs.declared.checked.CheckedQuery.TheVariants as variants
use Rattle.rs_checker.specs.CheckedView.{query_of, named_in}
use Rattle.rs_plan.specs.declared.operand.Operand.{Operand}
use Rattle.rs_plan.specs.Counted.{Counted, StandsFor}
use Rattle.rs_plan.specs.Operands.{operand_tree, IsWeighed, widths}
use Rattle.rs_plan.specs.Widths.{IsWidth}
use Rattle.rs_plan.proofs.QueryVariants.{table-query, table-named, where-query, where-named, dissolve-query, dissolve-named, rename-query, rename-named, window-query, window-named, transform-query, transform-named, gaps-query, gaps-named, overlay-query, overlay-named, cover-query, cover-named, merge-query, merge-named, minus-query, minus-named}
use Rattle.rs_plan.proofs.Standing.{stands-as, where-stands, rename-stands, window-stands, transform-stands, overlay-left, overlay-right, merge-left, minus-left}

module _ (basis : Basis) where
  abbrev one_width : List Plan → ℕ
  one_width plans = plan_width basis.world (together basis plans)

  under-both : (conditions : List Condition) (plans : List Plan) → width_together basis.world (overlay_under_where basis conditions plans) ≡ width_together basis.world plans
  under-both [] plans = refl
  under-both (condition ∷ conditions) plans = let wide = together-width basis plans in omega (arith, wide)

  where-width : (conditions : List Condition) (plan : Plan) → plan_width basis.world (under_where conditions plan) ≡ plan_width basis.world plan
  where-width [] plan = refl
  where-width (condition ∷ conditions) plan = refl

  window-width : (windows : List Window) (plan : Plan) → plan_width basis.world (under_window windows plan) ≡ plan_width basis.world plan
  window-width [] plan = refl
  window-width (window ∷ windows) plan = refl

  pub placed-width : (query : Query) (windows : List Window) (conditions : List Condition) → IsWellFormed basis.world query → width_together basis.world (place basis query windows conditions) ≡ width_of basis.world query
  placed-width (table_rows name) windows conditions wf = omega arith
  placed-width (where_rows query condition) windows conditions wf = placed-width query windows (conditions ++ conjuncts condition) wf
  placed-width (window_rows query window) windows conditions wf = placed-width query (windows ++ window ∷ []) conditions wf
  placed-width (rename_column query column name) windows conditions wf =
      placed-width query windows conditions wf ∙ sym (length-set (columns_of basis.world query) column (name, (column_at (columns_of basis.world query) column).1))
  placed-width (dissolve_rows query columns) windows conditions wf = let long = length-map columns (column_at (columns_of basis.world query)) in omega (arith, long)
  placed-width (overlay_rows a b) windows conditions wf =
      let left = filter (is_of_left (width_of basis.world a)) conditions in
      let right = map (under_right (width_of basis.world a)) (filter (is_of_right (width_of basis.world a)) conditions) in
      under-both (filter (is_of_both (width_of basis.world a)) conditions) (place basis a windows left ++ place basis b windows right)
      ∙ width-append basis.world (place basis a windows left) (place basis b windows right)
      ∙ (λ i. placed-width a windows left wf.0 i + placed-width b windows right wf.1 i)
      ∙ sym (length-append (columns_of basis.world a) (columns_of basis.world b))
  placed-width (cover_rows m n a b) windows conditions wf =
      let above = where-width conditions (cover_node m n (together basis (place basis a windows [])) (together basis (place basis b windows []))) in
      let long = length-append (columns_of basis.world a) (columns_of basis.world b) in
      let first = wf.3 in let second = wf.4 in omega (arith, above, long, first, second)
  placed-width (merge_rows a b) windows conditions wf = let one = together-width basis (place basis a windows conditions) in let rest = placed-width a windows conditions wf.0 in omega (arith, one, rest)
  placed-width (minus_rows a b) windows conditions wf = let one = together-width basis (place basis a windows conditions) in let rest = placed-width a windows conditions wf.0 in omega (arith, one, rest)
  placed-width (transform_rows query name pieces) windows conditions wf =
      let above = window-width windows (transform_node name pieces (together basis (place basis query [] conditions))) in
      let one = together-width basis (place basis query [] conditions) in
      let rest = placed-width query [] conditions wf.0 in omega (arith, above, one, rest)
  placed-width (gaps_rows query) windows conditions wf =
      let node = gaps_node (together basis (place basis query [] [])) in
      let seen = window-width windows node in
      let above = where-width conditions (under_window windows node) in omega (arith, seen, above)

  pub widths-together : (operands : List Operand) → AllByRecursion (IsWeighed basis) operands → widths operands ≡ width_together basis.world (map operand_tree operands)
  widths-together [] weighed = refl
  widths-together (operand ∷ operands) weighed = sum_by-cons (λ (one : Operand). one.width) operand operands ∙ (λ i. weighed.0.1 i + widths-together operands weighed.1 i)

-- ---- the width of a checked query

pub width-by : (query : CheckedQuery) (q : Query) (named : List Numbered) → query_of query ≡ q → named_in query ≡ named → (width : ℕ)
    → ((counted : Counted) (basis : Basis) → StandsFor counted basis q named → width ≡ width_of basis.world q) → IsWidth query width
width-by query q named same_query same_names width by = record {
  is = λ counted basis stands. by counted basis (stands-as counted basis (query_of query) q (named_in query) named same_query same_names stands) ∙ ap (width_of basis.world) (sym same_query);
}

-- ---- by the topmost node

module _ (query inner : CheckedQuery) (operand : Box CheckedQuery Global) (same : inner ≡ operand.value) (width : ℕ) (is_inner : IsWidth inner width) where
  within : IsWidth operand.value width
  within = subst (λ k. IsWidth k width) same is_inner

  pub where-wide : (condition : code.Condition) → query ≡ variants.Where operand condition → IsWidth query width
  where-wide condition is = width-by query _ _ (ap query_of is ∙ where-query operand condition) (ap named_in is ∙ where-named operand condition) width (λ counted basis stands. within.is counted basis (where-stands counted basis _ _ _ stands))

  pub rename-wide : (column : ℕ) (name : ArrayString) → query ≡ variants.Rename operand column name → IsWidth query width
  rename-wide column name is = width-by query _ _ (ap query_of is ∙ rename-query operand column name) (ap named_in is ∙ rename-named operand column name) width (λ counted basis stands. within.is counted basis (rename-stands counted basis _ _ _ _ stands) ∙ sym (length-set (columns_of basis.world (query_of operand.value)) column (name.bytes, (column_at (columns_of basis.world (query_of operand.value)) column).1)))

  pub window-wide : (window : LocatedWindow) → query ≡ variants.Window operand window → IsWidth query width
  window-wide window is = width-by query _ _ (ap query_of is ∙ window-query operand window) (ap named_in is ∙ window-named operand window) width (λ counted basis stands. within.is counted basis (window-stands counted basis _ _ _ _ stands))

  pub transform-wide : (name : ArrayString) (pieces : Vec LocatedPiece Global) → query ≡ variants.Transform operand name pieces → IsWidth query width
  transform-wide name pieces is = width-by query _ _ (ap query_of is ∙ transform-query operand name pieces) (ap named_in is ∙ transform-named operand name pieces) width (λ counted basis stands. within.is counted basis (transform-stands counted basis _ _ _ _ _ stands))

  pub merge-wide : (right : Box CheckedQuery Global) → query ≡ variants.Merge operand right → IsWidth query width
  merge-wide right is = width-by query _ _ (ap query_of is ∙ merge-query operand right) (ap named_in is ∙ merge-named operand right) width (λ counted basis stands. within.is counted basis (merge-left counted basis _ _ _ _ stands))

  pub minus-wide : (right : Box CheckedQuery Global) → query ≡ variants.Minus operand right → IsWidth query width
  minus-wide right is = width-by query _ _ (ap query_of is ∙ minus-query operand right) (ap named_in is ∙ minus-named operand right) width (λ counted basis stands. within.is counted basis (minus-left counted basis _ _ _ _ stands))

pub table-wide : (query : CheckedQuery) (table : CheckedTable) → query ≡ variants.Table table → IsWidth query table.width
table-wide query table is = width-by query _ _ (ap query_of is ∙ table-query table) (ap named_in is ∙ table-named table) table.width (λ counted basis stands. sym stands.tables.0.0)

pub gaps-wide : (query : CheckedQuery) (operand : Box CheckedQuery Global) → query ≡ variants.Gaps operand → IsWidth query 0
gaps-wide query operand is = width-by query _ _ (ap query_of is ∙ gaps-query operand) (ap named_in is ∙ gaps-named operand) 0 (λ counted basis stands. refl)

small : (m most : ℕ) → m ≤ most → min m most ≡ m
small m most le = omega (arith, le)

pub dissolve-wide : (query : CheckedQuery) (operand : Box CheckedQuery Global) (columns : Vec ℕ Global) (width : ℕ) → width ≡ min (length columns.items) (2 ^ 8 - 1) → query ≡ variants.Dissolve operand columns → IsWidth query width
dissolve-wide query operand columns width counts is = width-by query _ _ (ap query_of is ∙ dissolve-query operand columns) (ap named_in is ∙ dissolve-named operand columns) width
    (λ counted basis stands. counts ∙ (let few = stands.well_formed.1 in small (length columns.items) (2 ^ 8 - 1) (omega (arith, few))) ∙ sym (length-map columns.items (column_at (columns_of basis.world (query_of operand.value)))))

pub cover-wide : (query : CheckedQuery) (m n : ℕ) (left right : Box CheckedQuery Global) (width : ℕ) → width ≡ min (m + n) (2 ^ 8 - 1) → query ≡ variants.Cover m n left right → IsWidth query width
cover-wide query m n left right width sum is = width-by query _ _ (ap query_of is ∙ cover-query m n left right) (ap named_in is ∙ cover-named m n left right) width
    (λ counted basis stands.
    let few = stands.well_formed.2 in
    let long = length-append (columns_of basis.world (query_of left.value)) (columns_of basis.world (query_of right.value)) in
    sum ∙ small (m + n) (2 ^ 8 - 1) (omega (arith, few)) ∙ (λ i. stands.well_formed.3 i + stands.well_formed.4 i) ∙ sym long)

pub overlay-wide : (query first second : CheckedQuery) (left right : Box CheckedQuery Global) (m n width : ℕ) → first ≡ left.value → second ≡ right.value → IsWidth first m → IsWidth second n → width ≡ min (m + n) (2 ^ 8 - 1) → query ≡ variants.Overlay left right → IsWidth query width
overlay-wide query first second left right m n width same_left same_right is_left is_right sum is = width-by query _ _ (ap query_of is ∙ overlay-query left right) (ap named_in is ∙ overlay-named left right) width
    (λ counted basis stands.
    let few = stands.well_formed.2 in
    let x = (subst (λ k. IsWidth k m) same_left is_left).is counted basis (overlay-left counted basis _ _ _ _ stands) in
    let y = (subst (λ k. IsWidth k n) same_right is_right).is counted basis (overlay-right counted basis _ _ _ _ stands) in
    let long = length-append (columns_of basis.world (query_of left.value)) (columns_of basis.world (query_of right.value)) in
    sum ∙ small (m + n) (2 ^ 8 - 1) (omega (arith, few, x, y)) ∙ (λ i. x i + y i) ∙ sym long)
