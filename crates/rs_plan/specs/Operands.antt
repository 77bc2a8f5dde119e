-- Plans on their way up: what is known of them, and what they are together. No clause of another crate speaks of it.
use Rattle.std.specs.Prelude.{◌≡◌, Bool, true, false, ℕ, ◌+◌, ◌-◌, ◌*◌, ◌^◌, ◌<◌, ◌≤◌, ◌==◌, List, [], ◌∷◌, map, flat_map, sum_by, min, Contains}
use Rattle.std.specs.List.{AllByRecursion, range_with_len, position_or_len}
use Rattle.rs_facts.specs.Condition.{Condition}
use Rattle.rs_facts.specs.Query.{Query, overlay_rows, cover_rows, merge_rows, minus_rows}
use Rattle.rs_planning.specs.Basis.{Basis}
use Rattle.rs_planning.specs.Checked.{nodes_of}
use Rattle.rs_planning.specs.Numbered.{Numbered}
use Rattle.rs_planning.specs.Plan as plans
use Rattle.rs_planning.specs.Plan.{plan_width}
use Rattle.rs_planning.specs.Rule.{weight, in_written_order, lightest_first, overlay_of, together, overlay_under_where, place}
use Rattle.rs_plan.specs.declared.nodes.OfRows.{OfRows}
use Rattle.rs_plan.specs.declared.nodes.OfRows.TheVariants as of_rows
use Rattle.rs_plan.specs.declared.operand.Operand.{Operand}
use Rattle.rs_plan.specs.declared.overlays.Written.{Written}
use Rattle.rs_plan.specs.declared.plan.PlannedWindow.{PlannedWindow}
use Rattle.rs_plan.specs.Counted.{Counted, named_index, StandsFor}
use Rattle.rs_plan.specs.PlanView.{plan_tree, named_in, window_of, named_by_window}

abbrev pub operand_tree : Operand → plans.Plan
operand_tree operand = plan_tree operand.plan

abbrev pub operand_names : Operand → List Numbered
operand_names operand = named_in operand.plan

-- each is among the whole
abbrev pub AreAmong : List Numbered → List Numbered → Type 0
AreAmong whole named = AllByRecursion (Contains whole) named

-- its weight and its width are the plan's
abbrev pub IsWeighed : Basis → Operand → Type 0
IsWeighed basis operand = (operand.weight ≡ weight basis.record_count (operand_tree operand)) × (operand.width ≡ plan_width basis.world (operand_tree operand))

abbrev pub weights : List Operand → ℕ
weights operands = sum_by (λ one. one.weight) operands

abbrev pub widths : List Operand → ℕ
widths operands = sum_by (λ one. one.width) operands

-- ---- one plan of some operands

-- where neither their weights nor their widths are too large for a number, it is the one plan that the rule gives them
pub record IsTogether (operands : List Operand) (one : Operand) : Type 0 where
  pub tree : (basis : Basis) → AllByRecursion (IsWeighed basis) operands → weights operands < 2 ^ 128 → widths operands < 2 ^ 8 → operand_tree one ≡ together basis (map operand_tree operands)
  pub weighed : (basis : Basis) → AllByRecursion (IsWeighed basis) operands → weights operands < 2 ^ 128 → widths operands < 2 ^ 8 → IsWeighed basis one
  pub light : one.weight ≤ weights operands
  pub names : (whole : List Numbered) → AreAmong whole (flat_map operand_names operands) → AreAmong whole (operand_names one)

-- where neither is too large, it is the OVERLAY that the rule gives them
pub record IsOverlay (operands : List Operand) (one : Operand) : Type 0 where
  pub tree : (basis : Basis) → AllByRecursion (IsWeighed basis) operands → weights operands < 2 ^ 128 → widths operands < 2 ^ 8 → operand_tree one ≡ overlay_of (lightest_first basis.record_count (in_written_order basis.world 0 (map operand_tree operands)))
  pub weighed : (basis : Basis) → AllByRecursion (IsWeighed basis) operands → weights operands < 2 ^ 128 → widths operands < 2 ^ 8 → IsWeighed basis one
  pub light : one.weight ≤ weights operands
  pub names : (whole : List Numbered) → AreAmong whole (flat_map operand_names operands) → AreAmong whole (operand_names one)

-- each with the place of its first column
abbrev pub written_from : ℕ → List Operand → List Written
written_from first [] = []
written_from first (operand ∷ operands) = record { operand = operand; first = first } ∷ written_from (min (first + operand.width) (2 ^ 8 - 1)) operands

-- the places of its columns
abbrev pub range_from : ℕ → ℕ → List ℕ
range_from first width = map (λ place. min (first + place) (2 ^ 8 - 1)) (range_with_len 0 width)

abbrev pub range_of : Written → List ℕ
range_of one = range_from one.first one.operand.width

-- the first place of a column among these
abbrev pub place_among : List ℕ → ℕ → ℕ
place_among columns column = min (position_or_len (λ other. other == column) columns) (2 ^ 8 - 1)

-- ---- nodes

-- the node of MERGE or of MINUS over two plans
abbrev pub rows_node : OfRows → plans.Plan → plans.Plan → plans.Plan
rows_node of_rows.Merge left right = plans.merge_node left right
rows_node of_rows.Minus left right = plans.minus_node left right

-- an operand of this plan, weight and width, which names these
pub record IsOver (one : Operand) (tree : plans.Plan) (weight width : ℕ) (named : List Numbered) : Type 0 where
  pub tree_is : operand_tree one ≡ tree
  pub weight_is : one.weight ≡ weight
  pub width_is : one.width ≡ width
  pub names : operand_names one ≡ named

-- the same, alone
pub record IsAlone (operands : List Operand) (tree : plans.Plan) (weight width : ℕ) (named : List Numbered) : Type 0 where
  pub one : Operand
  pub is : operands ≡ one ∷ []
  pub over : IsOver one tree weight width named

-- where neither is too large, they are the operands, or the one plan of them under a WHERE
pub record IsOverlaid (conditions : List Condition) (operands made : List Operand) : Type 0 where
  pub trees : (basis : Basis) → AllByRecursion (IsWeighed basis) operands → weights operands < 2 ^ 128 → widths operands < 2 ^ 8 → map operand_tree made ≡ overlay_under_where basis conditions (map operand_tree operands)
  pub weighed : (basis : Basis) → AllByRecursion (IsWeighed basis) operands → weights operands < 2 ^ 128 → widths operands < 2 ^ 8 → AllByRecursion (IsWeighed basis) made
  pub light : weights made ≤ weights operands
  pub names : (whole : List Numbered) → AreAmong whole (flat_map operand_names operands) → AreAmong whole (flat_map operand_names made)

-- ---- a query and what is asked of it from further out

-- a leaf's number of records
abbrev pub most_records : ℕ
most_records = 2 ^ 96 - 1

-- two queries are joined
abbrev pub is_pair : Query → Bool
is_pair (overlay_rows left right) = true
is_pair (cover_rows left_width right_width left right) = true
is_pair (merge_rows left right) = true
is_pair (minus_rows left right) = true
is_pair _ = false

-- the plans are those of the rule, in the written order
pub record IsPlaced (counted : Counted) (query : Query) (named : List Numbered) (windows : List PlannedWindow) (conditions : List Condition) (operands : List Operand) : Type 0 where
  pub trees : (basis : Basis) → StandsFor counted basis query named → map operand_tree operands ≡ place basis query (map window_of windows) conditions
  pub weighed : (basis : Basis) → StandsFor counted basis query named → AllByRecursion (IsWeighed basis) operands
  pub light : weights operands ≤ nodes_of query * most_records
  pub names : (whole : List Numbered) → AreAmong whole named → AreAmong whole (map named_by_window windows) → AreAmong whole (map named_index counted.indexes) → AreAmong whole (flat_map operand_names operands)

-- the plan is the one that the rule gives
pub record IsPlacedAlone (counted : Counted) (query : Query) (named : List Numbered) (windows : List PlannedWindow) (conditions : List Condition) (one : Operand) : Type 0 where
  pub tree : (basis : Basis) → StandsFor counted basis query named → operand_tree one ≡ together basis (place basis query (map window_of windows) conditions)
  pub weighed : (basis : Basis) → StandsFor counted basis query named → IsWeighed basis one
  pub light : one.weight ≤ nodes_of query * most_records
  pub names : (whole : List Numbered) → AreAmong whole named → AreAmong whole (map named_by_window windows) → AreAmong whole (map named_index counted.indexes) → AreAmong whole (operand_names one)
