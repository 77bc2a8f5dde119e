-- A plan means its query: by cases of the query, with windows and conditions on their way down.
use Rattle.std.proofs.Common.{◌≡◌, ℕ, List, [], ◌∷◌, ◌++◌, map, refl, sym, ap, ◌∙◌, subst, arith}
use Rattle.std.specs.List.{AllByRecursion}
use Rattle.std.specs.FinMap as names
use Rattle.rs_facts.specs.Fact.{Name, RowSet, contains}
use Rattle.rs_facts.specs.Condition.{Condition}
use Rattle.rs_facts.specs.Operators.{dissolved, overlaid, covered, merged, without}
use Rattle.rs_facts.specs.Query.{World, Window, facts_of, transformed, gapped_on, Query, table_rows, where_rows, dissolve_rows, rename_column, overlay_rows, cover_rows, merge_rows, minus_rows, window_rows, transform_rows, gaps_rows, rows_at}
use Rattle.rs_facts.specs.WellFormed.{width_of, IsWellFormed}
use Rattle.rs_planning.specs.Basis.{Basis}
use Rattle.rs_planning.specs.Checked.{ReadBelow, NamesItsColumns, RowsHaveTheirWidth}
use Rattle.rs_planning.specs.Conjuncts.{conjuncts, under_dissolve}
use Rattle.rs_planning.specs.Laws.{PlansMeanTheirQueries, PlansAreWellFormed}
use Rattle.rs_planning.specs.Plan.{Plan, where_node, dissolve_node, cover_node, merge_node, minus_node, transform_node, gaps_node, met_by_each, seen_through_each, plan_rows_at}
use Rattle.rs_planning.specs.Rule.{leaf, together, under_where, under_window, overlay_under_where, place}
use Rattle.rs_planning.proofs.Meeting.{every-append}
use Rattle.rs_planning.proofs.Shown.{shown, contains-shown, met_by_none, shown_whole, shown_leaf, shown_where, shown_window, shown_dissolve, shown_merge, shown_minus, shown_cover, shown_transform, shown_gaps, shown_overlay}
use Rattle.rs_planning.proofs.PuttingBack.{HasItsWidth}
use Rattle.rs_planning.proofs.Widths.{rows-wide}
use Rattle.rs_planning.proofs.Operands.{rows_together, width_together, unit_right, rows-append, together-rows}
use Rattle.rs_planning.proofs.Forming.{below-where, below-rename, below-chosen, below-dissolve, left_of, right_of, both_of, below-overlay_left, below-overlay_right, part, formed, plan-formed}

where-rows : (world : World) (conditions : List Condition) (plan : Plan) (route : Name) (k : ℕ) → plan_rows_at world (under_where conditions plan) route k ≡ met_by_each conditions (plan_rows_at world plan route k)
where-rows world [] plan route k = sym (met_by_none (plan_rows_at world plan route k))
where-rows world (condition ∷ conditions) plan route k = refl

window-rows : (world : World) (windows : List Window) (plan : Plan) (route : Name) (k : ℕ) → plan_rows_at world (under_window windows plan) route k ≡ seen_through_each windows route k (plan_rows_at world plan route k)
window-rows world [] plan route k = refl
window-rows world (window ∷ windows) plan route k = refl

module _ (basis : Basis) (have : RowsHaveTheirWidth basis.world) where
  -- what the operands that a query is placed as have together
  record IsPlaced (plans : List Plan) (query : Query) (windows : List Window) (conditions : List Condition) : Type 0 where
    rows : (route : Name) (k : ℕ) → rows_together basis.world plans route k ≡ shown windows conditions route k (rows_at basis.world query route k)
    wide : AllByRecursion (HasItsWidth basis.world) plans

  -- what a plan has that is seen through windows, of a query's rows those that meet conditions
  abbrev Shows : Plan → Query → List Window → List Condition → Type 0
  Shows plan query windows conditions = (route : Name) (k : ℕ) → plan_rows_at basis.world plan route k ≡ shown windows conditions route k (rows_at basis.world query route k)

  -- a plan alone
  alone : (plan : Plan) (query : Query) (windows : List Window) (conditions : List Condition) → IsWellFormed basis.world query → width_together basis.world (plan ∷ []) ≡ width_of basis.world query
      → Shows plan query windows conditions → IsPlaced (plan ∷ []) query windows conditions
  alone plan query windows conditions wf width rows = record {
    rows = λ route k. unit_right (plan_rows_at basis.world plan route k) ∙ rows route k;
    wide = (
      (λ route k row e.
          let among = contains-shown windows conditions route k (rows_at basis.world query route k) row (ap (λ (r : RowSet). contains r row) (sym (rows route k)) ∙ e) in
          let wide = rows-wide basis.world have query wf route k row among in
          omega (arith, wide, width)),
      tt,
    );
  }

  -- operands under a WHERE, if there is one
  under : (rest : List Condition) (plans : List Plan) (query : Query) (windows : List Window) (conditions : List Condition) → IsWellFormed basis.world query
      → width_together basis.world (overlay_under_where basis rest plans) ≡ width_of basis.world query
      → ((route : Name) (k : ℕ) → met_by_each rest (rows_together basis.world plans route k) ≡ shown windows conditions route k (rows_at basis.world query route k))
      → AllByRecursion (HasItsWidth basis.world) plans → IsPlaced (overlay_under_where basis rest plans) query windows conditions
  under [] plans query windows conditions wf width rows wide = record { rows = λ route k. sym (met_by_none (rows_together basis.world plans route k)) ∙ rows route k; wide = wide }
  under (condition ∷ rest) plans query windows conditions wf width rows wide =
      alone (where_node (condition ∷ rest) (together basis plans)) query windows conditions wf width
      (λ route k. ap (met_by_each (condition ∷ rest)) (together-rows basis plans wide route k) ∙ rows route k)

  -- the operands of OVERLAY
  both : (a b : Query) (windows : List Window) (conditions : List Condition) → IsWellFormed basis.world (overlay_rows a b) → (left right : List Plan)
      → width_together basis.world (overlay_under_where basis (both_of basis.world a conditions) (left ++ right)) ≡ width_of basis.world (overlay_rows a b)
      → IsPlaced left a windows (left_of basis.world a conditions) → IsPlaced right b windows (right_of basis.world a conditions)
      → IsPlaced (overlay_under_where basis (both_of basis.world a conditions) (left ++ right)) (overlay_rows a b) windows conditions
  both a b windows conditions wf left right width of_left of_right =
      under (both_of basis.world a conditions) (left ++ right) (overlay_rows a b) windows conditions wf width
      (λ route k. ap (met_by_each (both_of basis.world a conditions)) (rows-append basis.world left right route k ∙ (λ i. overlaid (of_left.rows route k i) (of_right.rows route k i)))
      ∙ shown_overlay windows conditions (width_of basis.world a) route k (rows_at basis.world a route k) (rows_at basis.world b route k) (rows-wide basis.world have a wf.0 route k))
      (every-append _ left right of_left.wide of_right.wide)

  -- the one plan of a placed query
  one : (plans : List Plan) (query : Query) (windows : List Window) (conditions : List Condition) → IsPlaced plans query windows conditions → Shows (together basis plans) query windows conditions
  one plans query windows conditions is route k = together-rows basis plans is.wide route k ∙ is.rows route k

  placed : (query : Query) (windows : List Window) (conditions : List Condition) → IsWellFormed basis.world query → NamesItsColumns basis.world query → ReadBelow (width_of basis.world query) conditions
      → IsPlaced (place basis query windows conditions) query windows conditions
  placed (table_rows name) windows conditions wf named below =
      alone (leaf basis name windows conditions) (table_rows name) windows conditions wf (formed basis (table_rows name) windows conditions wf named below).width
      (λ route k. shown_leaf windows conditions route k (facts_of (names.get basis.world.tables name) route k))
  placed (where_rows query condition) windows conditions wf named below =
      let rest = placed query windows (conditions ++ conjuncts condition) wf named.0 (below-where basis.world query conditions condition named below) in
      record { rows = λ route k. rest.rows route k ∙ shown_where windows conditions condition route k (rows_at basis.world query route k); wide = rest.wide }
  placed (window_rows query window) windows conditions wf named below =
      let rest = placed query (windows ++ window ∷ []) conditions wf named below in
      record { rows = λ route k. rest.rows route k ∙ shown_window windows window conditions route k (rows_at basis.world query route k); wide = rest.wide }
  placed (rename_column query column name) windows conditions wf named below =
      let rest = placed query windows conditions wf named (below-rename basis.world query conditions column name below) in
      record { rows = rest.rows; wide = rest.wide }
  placed (dissolve_rows query columns) windows conditions wf named below =
      let inner = one (place basis query windows (map (under_dissolve columns) conditions)) query windows (map (under_dissolve columns) conditions) (placed query windows (map (under_dissolve columns) conditions) wf.0 named.0 (below-dissolve basis.world query conditions columns named below)) in
      alone (dissolve_node columns (part basis query windows (map (under_dissolve columns) conditions))) (dissolve_rows query columns) windows conditions wf (formed basis (dissolve_rows query columns) windows conditions wf named below).width
      (λ route k. ap (dissolved columns) (inner route k) ∙ shown_dissolve windows conditions columns route k (rows_at basis.world query route k) (below-chosen basis.world query conditions columns below))
  placed (overlay_rows a b) windows conditions wf named below =
      both a b windows conditions wf (place basis a windows (left_of basis.world a conditions)) (place basis b windows (right_of basis.world a conditions))
      (formed basis (overlay_rows a b) windows conditions wf named below).width
      (placed a windows (left_of basis.world a conditions) wf.0 named.0 (below-overlay_left basis.world a b conditions below))
      (placed b windows (right_of basis.world a conditions) wf.1 named.1 (below-overlay_right basis.world a b conditions below))
  placed (cover_rows m n a b) windows conditions wf named below =
      let left = one (place basis a windows []) a windows [] (placed a windows [] wf.0 named.0 tt) in
      let right = one (place basis b windows []) b windows [] (placed b windows [] wf.1 named.1 tt) in
      alone (under_where conditions (cover_node m n (part basis a windows []) (part basis b windows []))) (cover_rows m n a b) windows conditions wf (formed basis (cover_rows m n a b) windows conditions wf named below).width
      (λ route k. where-rows basis.world conditions (cover_node m n (part basis a windows []) (part basis b windows [])) route k
      ∙ ap (met_by_each conditions) (λ i. covered m n (left route k i) (right route k i))
      ∙ shown_cover windows conditions m n route k (rows_at basis.world a route k) (rows_at basis.world b route k))
  placed (merge_rows a b) windows conditions wf named below =
      let left = one (place basis a windows conditions) a windows conditions (placed a windows conditions wf.0 named.0 below) in
      let right = one (place basis b windows conditions) b windows conditions (placed b windows conditions wf.1 named.1 (subst (λ width. ReadBelow width conditions) wf.3 below)) in
      alone (merge_node (part basis a windows conditions) (part basis b windows conditions)) (merge_rows a b) windows conditions wf (formed basis (merge_rows a b) windows conditions wf named below).width
      (λ route k. (λ i. merged (left route k i) (right route k i)) ∙ shown_merge windows conditions route k (rows_at basis.world a route k) (rows_at basis.world b route k))
  placed (minus_rows a b) windows conditions wf named below =
      let left = one (place basis a windows conditions) a windows conditions (placed a windows conditions wf.0 named.0 below) in
      let right = one (place basis b windows conditions) b windows conditions (placed b windows conditions wf.1 named.1 (subst (λ width. ReadBelow width conditions) wf.3 below)) in
      alone (minus_node (part basis a windows conditions) (part basis b windows conditions)) (minus_rows a b) windows conditions wf (formed basis (minus_rows a b) windows conditions wf named below).width
      (λ route k. (λ i. without (left route k i) (right route k i)) ∙ shown_minus windows conditions route k (rows_at basis.world a route k) (rows_at basis.world b route k))
  placed (transform_rows query name pieces) windows conditions wf named below =
      let inner = one (place basis query [] conditions) query [] conditions (placed query [] conditions wf.0 named below) in
      alone (under_window windows (transform_node name pieces (part basis query [] conditions))) (transform_rows query name pieces) windows conditions wf (formed basis (transform_rows query name pieces) windows conditions wf named below).width
      (λ route k. window-rows basis.world windows (transform_node name pieces (part basis query [] conditions)) route k
      ∙ ap (seen_through_each windows route k) (λ i. transformed pieces (λ r j. inner r j i) route k)
      ∙ shown_transform windows conditions pieces (rows_at basis.world query) route k)
  placed (gaps_rows query) windows conditions wf named below =
      let inner = one (place basis query [] []) query [] [] (placed query [] [] wf named tt) in
      let plan = gaps_node (part basis query [] []) in
      alone (under_where conditions (under_window windows plan)) (gaps_rows query) windows conditions wf (formed basis (gaps_rows query) windows conditions wf named below).width
      (λ route k. where-rows basis.world conditions (under_window windows plan) route k
      ∙ ap (met_by_each conditions) (window-rows basis.world windows plan route k
      ∙ ap (λ (r : RowSet). seen_through_each windows route k (gapped_on (names.get basis.world.routes route) k r)) (inner route k))
      ∙ shown_gaps windows conditions (names.get basis.world.routes route) route k (rows_at basis.world query route k))

pub plan-means : PlansMeanTheirQueries
plan-means basis query have wf named =
    let is = plan-formed basis query wf named in
    record {
      rows = λ route k. one basis have (place basis query [] []) query [] [] (placed basis have query [] [] wf named tt) route k ∙ shown_whole route k (rows_at basis.world query route k);
      kind = is.kind;
      width = is.width;
    }

pub plan-well-formed : PlansAreWellFormed
plan-well-formed basis query wf named = (plan-formed basis query wf named).formed
