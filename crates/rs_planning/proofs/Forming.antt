-- A plan is well formed, and has its query's kind and width: by cases of the query, with windows and conditions on their
-- way down.
use Rattle.std.proofs.Common.{◌≡◌, ℕ, ◌+◌, ◌≤◌, List, [], ◌∷◌, ◌++◌, map, filter, length, refl, sym, ◌∙◌, subst, arith}
use Rattle.std.proofs.Math.ListN.{length-set}
use Rattle.std.proofs.lemmas.List.{length-append, length-map}
use Rattle.std.proofs.lemmas.List.Elements.{All-from_recursion, recursion_from_All}
use Rattle.std.proofs.lemmas.List.FromFn.{length-range_with_len}
use Rattle.std.proofs.lemmas.List.Sorted.{All-permutation, length_permutation}
use Rattle.std.specs.List.{AllByRecursion}
use Rattle.rs_value.specs.declared.column.TheConstants.{COLUMNS}
use Rattle.rs_facts.specs.Condition.{Condition}
use Rattle.rs_facts.specs.Fact.{Name}
use Rattle.rs_facts.specs.Query.{World, Window, table_columns, column_at, overlaid_kind, Query, table_rows, where_rows, dissolve_rows, rename_column, overlay_rows, cover_rows, merge_rows, minus_rows, window_rows, transform_rows, gaps_rows, kind_of, columns_of}
use Rattle.rs_facts.specs.WellFormed.{width_of, IsWellFormed}
use Rattle.rs_planning.specs.Basis.{Basis}
use Rattle.rs_planning.specs.Checked.{AreBelow, ReadBelow, NamesItsColumns}
use Rattle.rs_planning.specs.Conjuncts.{conjuncts, is_of_left, is_of_right, is_of_both, under_dissolve, under_right}
use Rattle.rs_planning.specs.Explain.{operands_counted}
use Rattle.rs_planning.specs.Plan.{Plan, where_node, dissolve_node, cover_node, merge_node, minus_node, transform_node, gaps_node, plan_kind, plan_width}
use Rattle.rs_planning.specs.Rule.{PlacedOperand, leaf, in_written_order, columns_together, operands_of, overlay_of, together, under_where, under_window, overlay_under_where, place}
use Rattle.rs_planning.specs.WellFormedPlan.{IsNoOverlay, operands_width, IsWellFormedPlan, AreWellFormedOperands}
use Rattle.rs_planning.proofs.Meeting.{every-append, every-filter, conjuncts-below, below-under_dissolve, below-left, below-right}
use Rattle.rs_planning.proofs.Operands.{kind_together, width_together, line_last, kind-append, width-append, by_weight, back-length, overlay-width, together-kind, together-width}
use Rattle.rs_planning.proofs.PuttingBack.{lightest-permutes}

-- ---- no query is too wide

pub narrow : (world : World) (query : Query) → IsWellFormed world query → width_of world query ≤ COLUMNS
narrow world (table_rows name) wf = subst (λ o. length (table_columns o) ≤ COLUMNS) (sym wf.1) wf.2
narrow world (where_rows query condition) wf = narrow world query wf
narrow world (dissolve_rows query columns) wf = let few = wf.1 in omega (arith, few, length-map columns (column_at (columns_of world query)))
narrow world (rename_column query column name) wf =
    let few = narrow world query wf in
    omega (arith, few, length-set (columns_of world query) column (name, (column_at (columns_of world query) column).1))
narrow world (overlay_rows a b) wf = let few = wf.2 in omega (arith, few, length-append (columns_of world a) (columns_of world b))
narrow world (cover_rows m n a b) wf = let few = wf.2 in let left = wf.3 in let right = wf.4 in omega (arith, few, left, right, length-append (columns_of world a) (columns_of world b))
narrow world (merge_rows a b) wf = narrow world a wf.0
narrow world (minus_rows a b) wf = narrow world a wf.0
narrow world (window_rows query window) wf = narrow world query wf
narrow world (transform_rows query name pieces) wf = narrow world query wf.0
narrow world (gaps_rows query) wf = omega arith

-- ---- conditions on their way down read columns of what they come to

module _ (world : World) (query : Query) (conditions : List Condition) where
  pub below-where : (condition : Condition) → NamesItsColumns world (where_rows query condition) → ReadBelow (width_of world query) conditions → ReadBelow (width_of world query) (conditions ++ conjuncts condition)
  below-where condition named below = every-append _ conditions (conjuncts condition) below (conjuncts-below (width_of world query) condition named.1)

  rename-width : (column : ℕ) (name : Name) → width_of world (rename_column query column name) ≡ width_of world query
  rename-width column name = length-set (columns_of world query) column (name, (column_at (columns_of world query) column).1)

  pub below-rename : (column : ℕ) (name : Name) → ReadBelow (width_of world (rename_column query column name)) conditions → ReadBelow (width_of world query) conditions
  below-rename column name below = subst (λ width. ReadBelow width conditions) (rename-width column name) below

  dissolve-width : (columns : List ℕ) → width_of world (dissolve_rows query columns) ≡ length columns
  dissolve-width columns = length-map columns (column_at (columns_of world query))

  pub below-chosen : (columns : List ℕ) → ReadBelow (width_of world (dissolve_rows query columns)) conditions → ReadBelow (length columns) conditions
  below-chosen columns below = subst (λ width. ReadBelow width conditions) (dissolve-width columns) below

  pub below-dissolve : (columns : List ℕ) → NamesItsColumns world (dissolve_rows query columns) → ReadBelow (width_of world (dissolve_rows query columns)) conditions → ReadBelow (width_of world query) (map (under_dissolve columns) conditions)
  below-dissolve columns named below = below-under_dissolve columns (width_of world query) conditions named.1 (below-chosen columns below)

abbrev pub left_of : World → Query → List Condition → List Condition
left_of world a conditions = filter (is_of_left (width_of world a)) conditions

abbrev pub right_of : World → Query → List Condition → List Condition
right_of world a conditions = map (under_right (width_of world a)) (filter (is_of_right (width_of world a)) conditions)

abbrev pub both_of : World → Query → List Condition → List Condition
both_of world a conditions = filter (is_of_both (width_of world a)) conditions

module _ (world : World) (a b : Query) (conditions : List Condition) where
  pub below-overlay_left : ReadBelow (width_of world (overlay_rows a b)) conditions → ReadBelow (width_of world a) (left_of world a conditions)
  below-overlay_left below = below-left (width_of world a) _ conditions below

  pub below-overlay_right : ReadBelow (width_of world (overlay_rows a b)) conditions → ReadBelow (width_of world b) (right_of world a conditions)
  below-overlay_right below = below-right (width_of world a) (width_of world b) conditions (subst (λ width. ReadBelow width conditions) (length-append (columns_of world a) (columns_of world b)) below)

  below-overlay_both : ReadBelow (width_of world (overlay_rows a b)) conditions → ReadBelow (width_of world (overlay_rows a b)) (both_of world a conditions)
  below-overlay_both below = every-filter _ _ (is_of_both (width_of world a)) (λ condition e h. h) conditions below

-- ---- what operands are together

module _ (basis : Basis) where
  abbrev pub IsOperand : Plan → Type 0
  IsOperand plan = IsWellFormedPlan basis.world plan × IsNoOverlay plan

  pub record IsFormed (plans : List Plan) (query : Query) : Type 0 where
    pub some : 1 ≤ length plans
    pub kind : kind_together basis.world plans ≡ kind_of basis.world query
    pub width : width_together basis.world plans ≡ width_of basis.world query
    pub each : AllByRecursion IsOperand plans

  -- what is so of a placed operand: its plan is one, and each of its columns has a place
  abbrev IsLaid : PlacedOperand → Type 0
  IsLaid one = IsOperand one.plan × (length one.columns ≡ plan_width basis.world one.plan)

  laid : (from : ℕ) (plans : List Plan) → AllByRecursion IsOperand plans → AllByRecursion IsLaid (in_written_order basis.world from plans)
  laid from [] each = tt
  laid from (plan ∷ plans) each = ((each.0, length-range_with_len from (plan_width basis.world plan)), laid (from + plan_width basis.world plan) plans each.1)

  operands-formed : (placed : List PlacedOperand) → AllByRecursion IsLaid placed → AreWellFormedOperands basis.world (operands_of placed)
  operands-formed [] each = tt
  operands-formed (one ∷ others) each = (each.0.0.0, each.0.0.1, operands-formed others each.1)

  operands-width : (placed : List PlacedOperand) → AllByRecursion IsLaid placed → operands_width basis.world (operands_of placed) ≡ length (columns_together placed)
  operands-width [] each = refl
  operands-width (one ∷ others) each =
      let first = each.0.1 in
      let rest = operands-width others each.1 in
      omega (arith, first, rest, length-append one.columns (columns_together others))

  operands-count : (placed : List PlacedOperand) → operands_counted (operands_of placed) ≡ length placed
  operands-count [] = refl
  operands-count (one ∷ others) = let rest = operands-count others in omega (arith, rest)

  length-in_order : (from : ℕ) (plans : List Plan) → length (in_written_order basis.world from plans) ≡ length plans
  length-in_order from [] = refl
  length-in_order from (plan ∷ plans) = let rest = length-in_order (from + plan_width basis.world plan) plans in omega (arith, rest)

  overlay-formed : (plans : List Plan) → 2 ≤ length plans → width_together basis.world plans ≤ COLUMNS → AllByRecursion IsOperand plans → IsWellFormedPlan basis.world (overlay_of (by_weight basis plans))
  overlay-formed plans two few each =
      let moved = lightest-permutes basis.record_count (in_written_order basis.world 0 plans) in
      let all : AllByRecursion IsLaid (by_weight basis plans) = recursion_from_All IsLaid (by_weight basis plans) (All-permutation IsLaid _ (by_weight basis plans) moved (All-from_recursion IsLaid _ (laid 0 plans each))) in (
        operands-formed (by_weight basis plans) all,
        omega (arith, operands-count (by_weight basis plans), length_permutation _ (by_weight basis plans) moved, length-in_order 0 plans),
        operands-width (by_weight basis plans) all ∙ sym (back-length (by_weight basis plans)),
        omega (arith, overlay-width basis plans),
      )

  -- their one plan
  together-formed : (plans : List Plan) (query : Query) → IsWellFormed basis.world query → IsFormed plans query → IsWellFormedPlan basis.world (together basis plans)
  together-formed [] query wf is = absurd (let some = is.some in omega (arith, some))
  together-formed (plan ∷ []) query wf is = is.each.0.0
  together-formed (plan ∷ other ∷ plans) query wf is = overlay-formed (plan ∷ other ∷ plans) (omega arith) (let few = narrow basis.world query wf in let width = is.width in omega (arith, few, width)) is.each

  alone : (plan : Plan) (query : Query) → plan_kind basis.world plan ≡ kind_of basis.world query → plan_width basis.world plan ≡ width_of basis.world query → IsWellFormedPlan basis.world plan → IsNoOverlay plan → IsFormed (plan ∷ []) query
  alone plan query kind width wf single = record { some = omega arith; kind = line_last (plan_kind basis.world plan) ∙ kind; width = omega (arith, width); each = ((wf, single), tt) }

  -- operands under a WHERE, if there is one
  under : (rest : List Condition) (plans : List Plan) (query : Query) → IsWellFormed basis.world query → ReadBelow (width_of basis.world query) rest → IsFormed plans query → IsFormed (overlay_under_where basis rest plans) query
  under [] plans query wf below is = is
  under (condition ∷ rest) plans query wf below is =
      let width = together-width basis plans ∙ is.width in
      alone (where_node (condition ∷ rest) (together basis plans)) query (together-kind basis plans ∙ is.kind) width
      (together-formed plans query wf is, omega arith, subst (λ n. ReadBelow n (condition ∷ rest)) (sym width) below) tt

  where-alone : (conditions : List Condition) (plan : Plan) (query : Query) → plan_kind basis.world plan ≡ kind_of basis.world query → plan_width basis.world plan ≡ width_of basis.world query → ReadBelow (plan_width basis.world plan) conditions
      → IsWellFormedPlan basis.world plan → IsNoOverlay plan → IsFormed (under_where conditions plan ∷ []) query
  where-alone [] plan query kind width below wf single = alone plan query kind width wf single
  where-alone (condition ∷ conditions) plan query kind width below wf single = alone (where_node (condition ∷ conditions) plan) query kind width (wf, omega arith, below) tt

  -- a plan under a WINDOW, if there is one, keeps its kind and its width, and is no OVERLAY
  window-kind : (windows : List Window) (plan : Plan) → plan_kind basis.world (under_window windows plan) ≡ plan_kind basis.world plan
  window-kind [] plan = refl
  window-kind (window ∷ windows) plan = refl

  window-width : (windows : List Window) (plan : Plan) → plan_width basis.world (under_window windows plan) ≡ plan_width basis.world plan
  window-width [] plan = refl
  window-width (window ∷ windows) plan = refl

  window-operand : (windows : List Window) (plan : Plan) → IsOperand plan → IsOperand (under_window windows plan)
  window-operand [] plan is = is
  window-operand (window ∷ windows) plan is = ((is.0, omega arith), tt)

  window-alone : (windows : List Window) (plan : Plan) (query : Query) → plan_kind basis.world plan ≡ kind_of basis.world query → plan_width basis.world plan ≡ width_of basis.world query
      → IsOperand plan → IsFormed (under_window windows plan ∷ []) query
  window-alone windows plan query kind width is =
      let under = window-operand windows plan is in
      alone (under_window windows plan) query (window-kind windows plan ∙ kind) (window-width windows plan ∙ width) under.0 under.1

  -- operands of a as well as of b are those of OVERLAY
  joined : (a b : Query) (left right : List Plan) → IsFormed left a → IsFormed right b → IsFormed (left ++ right) (overlay_rows a b)
  joined a b left right is_left is_right = record {
    some = let some = is_left.some in omega (arith, some, length-append left right);
    kind = kind-append basis.world left right ∙ (λ i. overlaid_kind (is_left.kind i) (is_right.kind i));
    width = width-append basis.world left right ∙ (λ i. is_left.width i + is_right.width i) ∙ sym (length-append (columns_of basis.world a) (columns_of basis.world b));
    each = every-append IsOperand left right is_left.each is_right.each;
  }

  -- the one plan of a placed query
  abbrev pub part : Query → List Window → List Condition → Plan
  part query windows conditions = together basis (place basis query windows conditions)

  -- what it keeps to
  pub record IsOne (plans : List Plan) (query : Query) : Type 0 where
    pub formed : IsWellFormedPlan basis.world (together basis plans)
    pub kind : plan_kind basis.world (together basis plans) ≡ kind_of basis.world query
    pub width : plan_width basis.world (together basis plans) ≡ width_of basis.world query

  one : (plans : List Plan) (query : Query) → IsWellFormed basis.world query → IsFormed plans query → IsOne plans query
  one plans query wf is = record { formed = together-formed plans query wf is; kind = together-kind basis plans ∙ is.kind; width = together-width basis plans ∙ is.width }

  pub formed : (query : Query) (windows : List Window) (conditions : List Condition) → IsWellFormed basis.world query → NamesItsColumns basis.world query → ReadBelow (width_of basis.world query) conditions → IsFormed (place basis query windows conditions) query
  formed (table_rows name) windows conditions wf named below =
      alone (leaf basis name windows conditions) (table_rows name) refl refl (wf.0, wf.1, wf.2, subst (λ o. ReadBelow (length (table_columns o)) conditions) wf.1 below) tt
  formed (where_rows query condition) windows conditions wf named below =
      let rest = formed query windows (conditions ++ conjuncts condition) wf named.0 (below-where basis.world query conditions condition named below) in
      record { some = rest.some; kind = rest.kind; width = rest.width; each = rest.each }
  formed (window_rows query window) windows conditions wf named below =
      let rest = formed query (windows ++ window ∷ []) conditions wf named below in
      record { some = rest.some; kind = rest.kind; width = rest.width; each = rest.each }
  formed (rename_column query column name) windows conditions wf named below =
      let rest = formed query windows conditions wf named (below-rename basis.world query conditions column name below) in
      record { some = rest.some; kind = rest.kind; width = rest.width ∙ sym (rename-width basis.world query conditions column name); each = rest.each }
  formed (dissolve_rows query columns) windows conditions wf named below =
      let inner = one (place basis query windows (map (under_dissolve columns) conditions)) query wf.0 (formed query windows (map (under_dissolve columns) conditions) wf.0 named.0 (below-dissolve basis.world query conditions columns named below)) in
      alone (dissolve_node columns (part query windows (map (under_dissolve columns) conditions))) (dissolve_rows query columns) inner.kind (sym (dissolve-width basis.world query conditions columns)) (inner.formed, wf.1, subst (λ width. AreBelow width columns) (sym inner.width) named.1) tt
  formed (overlay_rows a b) windows conditions wf named below =
      under (both_of basis.world a conditions) (place basis a windows (left_of basis.world a conditions) ++ place basis b windows (right_of basis.world a conditions)) (overlay_rows a b) wf (below-overlay_both basis.world a b conditions below)
      (joined a b (place basis a windows (left_of basis.world a conditions)) (place basis b windows (right_of basis.world a conditions))
      (formed a windows (left_of basis.world a conditions) wf.0 named.0 (below-overlay_left basis.world a b conditions below))
      (formed b windows (right_of basis.world a conditions) wf.1 named.1 (below-overlay_right basis.world a b conditions below)))
  formed (cover_rows m n a b) windows conditions wf named below =
      let left = one (place basis a windows []) a wf.0 (formed a windows [] wf.0 named.0 tt) in
      let right = one (place basis b windows []) b wf.1 (formed b windows [] wf.1 named.1 tt) in
      let width = (λ i. wf.3 i + wf.4 i) ∙ sym (length-append (columns_of basis.world a) (columns_of basis.world b)) in
      where-alone conditions (cover_node m n (part a windows []) (part b windows [])) (cover_rows m n a b) left.kind width (subst (λ n. ReadBelow n conditions) (sym width) below)
      (left.formed, right.formed, wf.2, wf.3 ∙ sym left.width, wf.4 ∙ sym right.width, left.kind ∙ wf.5 ∙ sym right.kind) tt
  formed (merge_rows a b) windows conditions wf named below =
      let left = one (place basis a windows conditions) a wf.0 (formed a windows conditions wf.0 named.0 below) in
      let right = one (place basis b windows conditions) b wf.1 (formed b windows conditions wf.1 named.1 (subst (λ width. ReadBelow width conditions) wf.3 below)) in
      alone (merge_node (part a windows conditions) (part b windows conditions)) (merge_rows a b) left.kind left.width (left.formed, right.formed, left.kind ∙ wf.2 ∙ sym right.kind, left.width ∙ wf.3 ∙ sym right.width) tt
  formed (minus_rows a b) windows conditions wf named below =
      let left = one (place basis a windows conditions) a wf.0 (formed a windows conditions wf.0 named.0 below) in
      let right = one (place basis b windows conditions) b wf.1 (formed b windows conditions wf.1 named.1 (subst (λ width. ReadBelow width conditions) wf.3 below)) in
      alone (minus_node (part a windows conditions) (part b windows conditions)) (minus_rows a b) left.kind left.width (left.formed, right.formed, left.kind ∙ wf.2 ∙ sym right.kind, left.width ∙ wf.3 ∙ sym right.width) tt
  formed (transform_rows query name pieces) windows conditions wf named below =
      let inner = one (place basis query [] conditions) query wf.0 (formed query [] conditions wf.0 named below) in
      window-alone windows (transform_node name pieces (part query [] conditions)) (transform_rows query name pieces) inner.kind inner.width ((inner.formed, wf.1), tt)
  formed (gaps_rows query) windows conditions wf named below =
      let inner = one (place basis query [] []) query wf (formed query [] [] wf named tt) in
      let plan = gaps_node (part query [] []) in
      let under = window-operand windows plan (inner.formed, tt) in
      let width = window-width windows plan in
      where-alone conditions (under_window windows plan) (gaps_rows query) (window-kind windows plan) width (subst (λ n. ReadBelow n conditions) (sym width) below) under.0 under.1

pub plan-formed : (basis : Basis) (query : Query) → IsWellFormed basis.world query → NamesItsColumns basis.world query → IsOne basis (place basis query [] []) query
plan-formed basis query wf named = one basis (place basis query [] []) query wf (formed basis query [] [] wf named tt)
