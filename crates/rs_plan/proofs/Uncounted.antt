-- The plan of a query without an OVERLAY is the same, whatever numbers of records tables have.
use Rattle.std.proofs.Common.{◌≡◌, Bool, true, false, ◌||◌, List, [], ◌∷◌, ◌++◌, map, refl, sym, ap, ◌∙◌}
use Rattle.std.specs.List.{AllByRecursion}
use Rattle.rs_facts.specs.Condition.{Condition}
use Rattle.rs_facts.specs.Query.{Window, Query, table_rows, where_rows, dissolve_rows, rename_column, overlay_rows, cover_rows, merge_rows, minus_rows, window_rows, transform_rows, gaps_rows}
use Rattle.rs_planning.specs.Basis.{Basis}
use Rattle.rs_planning.specs.Conjuncts.{conjuncts, under_dissolve}
use Rattle.rs_planning.specs.Numbered.{Numbered, numbered_table, numbered_route, numbered_index}
use Rattle.rs_planning.specs.Plan.{Plan, dissolve_node, cover_node, merge_node, minus_node, transform_node, gaps_node}
use Rattle.rs_planning.specs.Rule.{leaf, together, under_where, under_window, place, plan_of}
use Rattle.rs_checker.specs.declared.checked.Checked.{Checked}
use Rattle.rs_checker.specs.CheckedView as checking
use Rattle.rs_plan.specs.Counted.{Counted, IsCounted}
use Rattle.rs_plan.specs.Planned.{IsPlanOf}
use Rattle.rs_plan.specs.Weighing.{has_overlay, uncounted}
use Rattle.rs_plan.specs.declared.plan.Plan as code

-- the same, and no table has records
abbrev pub without_records : Basis → Basis
without_records basis = record { world = basis.world; record_count = λ name. 0; indexes = basis.indexes }

-- one plan, by the basis and by the one without records
record IsOne (basis : Basis) (query : Query) (windows : List Window) (conditions : List Condition) : Type 0 where
  one : Plan
  by_both : place basis query windows conditions ≡ one ∷ []
  by_none : place (without_records basis) query windows conditions ≡ one ∷ []

first_false : (a b : Bool) → (a || b) ≡ false → a ≡ false
first_false true b e = e
first_false false b e = refl

second_false : (a b : Bool) → (a || b) ≡ false → b ≡ false
second_false true b e = absurd (let wrong : true ≡ false = e in cc)
second_false false b e = e

module _ (basis : Basis) where
  is-one : (query : Query) → has_overlay query ≡ false → (windows : List Window) (conditions : List Condition) → IsOne basis query windows conditions
  is-one (table_rows name) e windows conditions = record { one = leaf basis name windows conditions; by_both = refl; by_none = refl }
  is-one (where_rows query condition) e windows conditions =
      let is = is-one query e windows (conditions ++ conjuncts condition) in
      record { one = is.one; by_both = is.by_both; by_none = is.by_none }
  is-one (window_rows query window) e windows conditions =
      let is = is-one query e (windows ++ window ∷ []) conditions in
      record { one = is.one; by_both = is.by_both; by_none = is.by_none }
  is-one (rename_column query column name) e windows conditions =
      let is = is-one query e windows conditions in
      record { one = is.one; by_both = is.by_both; by_none = is.by_none }
  is-one (dissolve_rows query columns) e windows conditions =
      let is = is-one query e windows (map (under_dissolve columns) conditions) in
      record {
        one = dissolve_node columns is.one;
        by_both = ap (λ (plans : List Plan). dissolve_node columns (together basis plans) ∷ []) is.by_both;
        by_none = ap (λ (plans : List Plan). dissolve_node columns (together (without_records basis) plans) ∷ []) is.by_none;
      }
  is-one (merge_rows a b) e windows conditions =
      let left = is-one a (first_false (has_overlay a) (has_overlay b) e) windows conditions in
      let right = is-one b (second_false (has_overlay a) (has_overlay b) e) windows conditions in
      record {
        one = merge_node left.one right.one;
        by_both = λ i. merge_node (together basis (left.by_both i)) (together basis (right.by_both i)) ∷ [];
        by_none = λ i. merge_node (together (without_records basis) (left.by_none i)) (together (without_records basis) (right.by_none i)) ∷ [];
      }
  is-one (minus_rows a b) e windows conditions =
      let left = is-one a (first_false (has_overlay a) (has_overlay b) e) windows conditions in
      let right = is-one b (second_false (has_overlay a) (has_overlay b) e) windows conditions in
      record {
        one = minus_node left.one right.one;
        by_both = λ i. minus_node (together basis (left.by_both i)) (together basis (right.by_both i)) ∷ [];
        by_none = λ i. minus_node (together (without_records basis) (left.by_none i)) (together (without_records basis) (right.by_none i)) ∷ [];
      }
  is-one (overlay_rows a b) e windows conditions = absurd (let wrong : true ≡ false = e in cc)
  is-one (cover_rows m n a b) e windows conditions =
      let left = is-one a (first_false (has_overlay a) (has_overlay b) e) windows [] in
      let right = is-one b (second_false (has_overlay a) (has_overlay b) e) windows [] in
      record {
        one = under_where conditions (cover_node m n left.one right.one);
        by_both = λ i. under_where conditions (cover_node m n (together basis (left.by_both i)) (together basis (right.by_both i))) ∷ [];
        by_none = λ i. under_where conditions (cover_node m n (together (without_records basis) (left.by_none i)) (together (without_records basis) (right.by_none i))) ∷ [];
      }
  is-one (transform_rows query name pieces) e windows conditions =
      let is = is-one query e [] conditions in
      record {
        one = under_window windows (transform_node name pieces is.one);
        by_both = ap (λ (plans : List Plan). under_window windows (transform_node name pieces (together basis plans)) ∷ []) is.by_both;
        by_none = ap (λ (plans : List Plan). under_window windows (transform_node name pieces (together (without_records basis) plans)) ∷ []) is.by_none;
      }
  is-one (gaps_rows query) e windows conditions =
      let is = is-one query e [] [] in
      record {
        one = under_where conditions (under_window windows (gaps_node is.one));
        by_both = ap (λ (plans : List Plan). under_where conditions (under_window windows (gaps_node (together basis plans))) ∷ []) is.by_both;
        by_none = ap (λ (plans : List Plan). under_where conditions (under_window windows (gaps_node (together (without_records basis) plans))) ∷ []) is.by_none;
      }

  plan-same : (query : Query) → has_overlay query ≡ false → plan_of (without_records basis) query ≡ plan_of basis query
  plan-same query e =
      let is = is-one query e [] [] in
      ap (together (without_records basis)) is.by_none ∙ sym (ap (together basis) is.by_both)

  stands-uncounted : (counted : Counted) (named : List Numbered) → AllByRecursion (IsCounted counted basis) named → AllByRecursion (IsCounted (uncounted counted) (without_records basis)) named
  stands-uncounted counted [] each = tt
  stands-uncounted counted (numbered_table name number kind width ∷ named) each = ((each.0.0, refl, each.0.2), stands-uncounted counted named each.1)
  stands-uncounted counted (numbered_route name number ∷ named) each = (tt, stands-uncounted counted named each.1)
  stands-uncounted counted (numbered_index name number ∷ named) each = (tt, stands-uncounted counted named each.1)

-- a plan by no records is one by any
pub planned-uncounted : (counted : Counted) (checked : Checked) (plan : code.Plan) → has_overlay (checking.query_of checked.query) ≡ false → IsPlanOf (uncounted counted) checked plan → IsPlanOf counted checked plan
planned-uncounted counted checked plan e is = record {
  tree = λ basis stands.
      is.tree (without_records basis) (record {
        well_formed = stands.well_formed;
        few = stands.few;
        tables = stands-uncounted basis counted (checking.named_in checked.query) stands.tables;
      })
      ∙ plan-same basis (checking.query_of checked.query) e;
  numbers = is.numbers;
}
