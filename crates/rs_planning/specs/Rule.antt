-- The rule of planning: which plan a query has.
use Rattle.std.specs.Prelude.{ℕ, ◌+◌, ◌==◌, Bool, ◌&&◌, nat_le, List, [], ◌∷◌, ◌++◌, map, filter, flat_map, length, Option, Some, None, if◌then◌else◌}
use Rattle.std.specs.List.{list_any, find, range_with_len, position_or_len}
use Rattle.std.specs.Option.{option_map}
use Rattle.std.specs.FinMap as names
use Rattle.rs_facts.specs.Fact.{Name}
use Rattle.rs_facts.specs.Insert.{same_name}
use Rattle.rs_facts.specs.Condition.{Condition}
use Rattle.rs_facts.specs.Query.{World, Window, Query, table_rows, where_rows, dissolve_rows, rename_column, overlay_rows, cover_rows, merge_rows, minus_rows, window_rows, transform_rows, gaps_rows}
use Rattle.rs_facts.specs.WellFormed.{width_of}
use Rattle.rs_planning.specs.Basis.{IndexedColumn, Basis}
use Rattle.rs_planning.specs.Conjuncts.{conjuncts, equates, is_of_left, is_of_right, is_of_both, under_dissolve, under_right}
use Rattle.rs_planning.specs.Plan.{Access, scan, range, index, Plan, leaf_node, where_node, dissolve_node, overlay_node, cover_node, merge_node, minus_node, window_node, transform_node, gaps_node, Operands, no_operand, operand, plan_width}

-- ---- how a leaf finds its records

-- the index is of a column of the table that stands in a conjunct `column = literal`
abbrev pub serves : Name → List Condition → IndexedColumn → Bool
serves table conditions of = same_name of.table table && list_any (equates of.column) conditions

-- the least name of an index that serves: a map has its names in their order
abbrev pub index_for : Basis → Name → List Condition → Option Name
index_for basis table conditions = option_map (λ entry. entry.0) (find (λ entry. serves table conditions entry.1) (names.entries basis.indexes))

-- by an index where one serves, else by range where there is a window
abbrev pub found_by : Option Name → List Window → Access
found_by (Some name) windows = index name
found_by None (window ∷ windows) = range
found_by None [] = scan

abbrev pub leaf : Basis → Name → List Window → List Condition → Plan
leaf basis table windows conditions = leaf_node (found_by (index_for basis table conditions) windows) table windows conditions

-- ---- the operands of an OVERLAY

-- how many records the tables at its leaves have, a table being counted at each leaf
abbrev mutual
  pub weight : (Name → ℕ) → Plan → ℕ
  weight record_count (leaf_node access table windows conditions) = record_count table
  weight record_count (where_node conditions plan) = weight record_count plan
  weight record_count (dissolve_node columns plan) = weight record_count plan
  weight record_count (overlay_node back operands) = weight_together record_count operands
  weight record_count (cover_node m n a b) = weight record_count a + weight record_count b
  weight record_count (merge_node a b) = weight record_count a + weight record_count b
  weight record_count (minus_node a b) = weight record_count a + weight record_count b
  weight record_count (window_node windows plan) = weight record_count plan
  weight record_count (transform_node name pieces plan) = weight record_count plan
  weight record_count (gaps_node plan) = weight record_count plan

  pub weight_together : (Name → ℕ) → Operands → ℕ
  weight_together record_count no_operand = 0
  weight_together record_count (operand plan operands) = weight record_count plan + weight_together record_count operands

-- an operand, and the places of its columns in the written order
pub record PlacedOperand : Type 0 where
  pub plan : Plan
  pub columns : List ℕ

-- operands in the written order, the columns of the first from this place on
abbrev pub in_written_order : World → ℕ → List Plan → List PlacedOperand
in_written_order world from [] = []
in_written_order world from (plan ∷ plans) = record { plan = plan; columns = range_with_len from (plan_width world plan) } ∷ in_written_order world (from + plan_width world plan) plans

-- before the first that is no lighter
abbrev pub inserted_by_weight : (Name → ℕ) → PlacedOperand → List PlacedOperand → List PlacedOperand
inserted_by_weight record_count one [] = one ∷ []
inserted_by_weight record_count one (other ∷ others) =
    if nat_le (weight record_count one.plan) (weight record_count other.plan) then one ∷ other ∷ others else other ∷ inserted_by_weight record_count one others

-- by weight, the least first; of one weight, as they were
abbrev pub lightest_first : (Name → ℕ) → List PlacedOperand → List PlacedOperand
lightest_first record_count [] = []
lightest_first record_count (one ∷ others) = inserted_by_weight record_count one (lightest_first record_count others)

-- the places of all their columns, from the left
abbrev pub columns_together : List PlacedOperand → List ℕ
columns_together placed = flat_map (λ one. one.columns) placed

-- where each column of the written order is among them
abbrev pub put_back : List PlacedOperand → List ℕ
put_back placed = map (λ column. position_or_len (λ other. other == column) (columns_together placed)) (range_with_len 0 (length (columns_together placed)))

abbrev pub operands_of : List PlacedOperand → Operands
operands_of [] = no_operand
operands_of (one ∷ others) = operand one.plan (operands_of others)

abbrev pub overlay_of : List PlacedOperand → Plan
overlay_of placed = overlay_node (put_back placed) (operands_of placed)

-- a plan alone is no OVERLAY; several are one
abbrev pub together : Basis → List Plan → Plan
together basis (plan ∷ []) = plan
together basis plans = overlay_of (lightest_first basis.record_count (in_written_order basis.world 0 plans))

-- ---- where windows and conjuncts go

-- a WHERE above, where there are conditions
abbrev pub under_where : List Condition → Plan → Plan
under_where [] plan = plan
under_where (condition ∷ conditions) plan = where_node (condition ∷ conditions) plan

-- a WINDOW above, where there are windows
abbrev pub under_window : List Window → Plan → Plan
under_window [] plan = plan
under_window (window ∷ windows) plan = window_node (window ∷ windows) plan

-- the operands of an OVERLAY stay operands of what is above, unless a WHERE comes between
abbrev pub overlay_under_where : Basis → List Condition → List Plan → List Plan
overlay_under_where basis [] plans = plans
overlay_under_where basis (condition ∷ conditions) plans = where_node (condition ∷ conditions) (together basis plans) ∷ []

-- The query seen through these windows, of its rows those that meet these conditions: the operands of one OVERLAY in the
-- written order, or a plan alone. The windows and the conditions of what is further out come first. Neither goes below GAPS,
-- where it would make gaps. Conditions come to a GAPS in no line, since each names a column, and GAPS has none.
abbrev pub place : Basis → Query → List Window → List Condition → List Plan
place basis (table_rows name) windows conditions = leaf basis name windows conditions ∷ []
place basis (where_rows query condition) windows conditions = place basis query windows (conditions ++ conjuncts condition)
place basis (window_rows query window) windows conditions = place basis query (windows ++ window ∷ []) conditions
place basis (rename_column query column name) windows conditions = place basis query windows conditions
place basis (dissolve_rows query columns) windows conditions = dissolve_node columns (together basis (place basis query windows (map (under_dissolve columns) conditions))) ∷ []
place basis (merge_rows a b) windows conditions = merge_node (together basis (place basis a windows conditions)) (together basis (place basis b windows conditions)) ∷ []
place basis (minus_rows a b) windows conditions = minus_node (together basis (place basis a windows conditions)) (together basis (place basis b windows conditions)) ∷ []
place basis (overlay_rows a b) windows conditions =
    overlay_under_where basis (filter (is_of_both (width_of basis.world a)) conditions)
    (place basis a windows (filter (is_of_left (width_of basis.world a)) conditions)
    ++ place basis b windows (map (under_right (width_of basis.world a)) (filter (is_of_right (width_of basis.world a)) conditions)))
place basis (cover_rows m n a b) windows conditions = under_where conditions (cover_node m n (together basis (place basis a windows [])) (together basis (place basis b windows []))) ∷ []
place basis (transform_rows query name pieces) windows conditions = under_window windows (transform_node name pieces (together basis (place basis query [] conditions))) ∷ []
place basis (gaps_rows query) windows conditions = under_where conditions (under_window windows (gaps_node (together basis (place basis query [] [])))) ∷ []

-- the plan of a query
abbrev pub plan_of : Basis → Query → Plan
plan_of basis query = together basis (place basis query [] [])
