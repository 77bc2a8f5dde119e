-- Plans: trees of nodes, and the rows, kind and width of a plan.
--
-- Columns go by place, windows are located.
use Rattle.std.specs.Prelude.{ℕ, ◌+◌, List, [], ◌∷◌, length}
use Rattle.std.specs.FinMap as names
use Rattle.rs_value.specs.declared.column.Kind.{Kind}
use Rattle.rs_value.specs.declared.column.Kind.TheVariants as kinds
use Rattle.rs_facts.specs.Fact.{Name, RowSet, keep}
use Rattle.rs_facts.specs.Condition.{Condition}
use Rattle.rs_facts.specs.Operators.{mapped, chosen, dissolved, overlaid, covered, merged, without}
-- the row without columns, which overlays nothing
pub use Rattle.rs_facts.specs.Operators.{no_columns}
use Rattle.rs_facts.specs.Query.{World, Window, Piece, facts_of, table_kind, table_columns, seen_through, transformed, gapped_on, overlaid_kind}
use Rattle.rs_planning.specs.Conjuncts.{meets_each}

-- how the records of a leaf's table are found
pub data Access : Type 0 where
  scan : Access
  range : Access
  index : Name → Access

mutual
  pub data Plan : Type 0 where
    leaf_node : Access → Name → List Window → List Condition → Plan  -- the table, the windows and conjuncts of its rows
    where_node : List Condition → Plan → Plan
    dissolve_node : List ℕ → Plan → Plan
    overlay_node : List ℕ → Operands → Plan  -- of each column from the left, its place among the operands' columns
    cover_node : ℕ → ℕ → Plan → Plan → Plan  -- how many columns the operands have
    merge_node : Plan → Plan → Plan
    minus_node : Plan → Plan → Plan
    window_node : List Window → Plan → Plan
    transform_node : Name → List Piece → Plan → Plan
    gaps_node : Plan → Plan

  -- of an OVERLAY, in the order in which they are evaluated
  pub data Operands : Type 0 where
    no_operand : Operands
    operand : Plan → Operands → Operands

-- ---- the rows of a plan

-- the same rows inside all the windows, and none elsewhere
abbrev pub seen_through_each : List Window → Name → ℕ → RowSet → RowSet
seen_through_each [] route k rows = rows
seen_through_each (window ∷ windows) route k rows = seen_through window route k (seen_through_each windows route k rows)

-- the rows that meet each condition
abbrev pub met_by_each : List Condition → RowSet → RowSet
met_by_each conditions rows = keep (meets_each conditions) rows

-- which rows the plan has on a route at a thousandth, however the records of its leaves are found
abbrev mutual
  pub plan_rows_at : World → Plan → Name → ℕ → RowSet
  plan_rows_at world (leaf_node access table windows conditions) route k = met_by_each conditions (seen_through_each windows route k (facts_of (names.get world.tables table) route k))
  plan_rows_at world (where_node conditions plan) route k = met_by_each conditions (plan_rows_at world plan route k)
  plan_rows_at world (dissolve_node columns plan) route k = dissolved columns (plan_rows_at world plan route k)
  plan_rows_at world (overlay_node back operands) route k = mapped (chosen back) (overlaid_rows_at world operands route k)
  plan_rows_at world (cover_node m n a b) route k = covered m n (plan_rows_at world a route k) (plan_rows_at world b route k)
  plan_rows_at world (merge_node a b) route k = merged (plan_rows_at world a route k) (plan_rows_at world b route k)
  plan_rows_at world (minus_node a b) route k = without (plan_rows_at world a route k) (plan_rows_at world b route k)
  plan_rows_at world (window_node windows plan) route k = seen_through_each windows route k (plan_rows_at world plan route k)
  plan_rows_at world (transform_node name pieces plan) route k = transformed pieces (plan_rows_at world plan) route k
  plan_rows_at world (gaps_node plan) route k = gapped_on (names.get world.routes route) k (plan_rows_at world plan route k)

  pub overlaid_rows_at : World → Operands → Name → ℕ → RowSet
  overlaid_rows_at world no_operand route k = no_columns
  overlaid_rows_at world (operand plan operands) route k = overlaid (plan_rows_at world plan route k) (overlaid_rows_at world operands route k)

-- ---- its kind and its width

-- whether the plan's rows are points or lines
abbrev mutual
  pub plan_kind : World → Plan → Kind
  plan_kind world (leaf_node access table windows conditions) = table_kind (names.get world.tables table)
  plan_kind world (where_node conditions plan) = plan_kind world plan
  plan_kind world (dissolve_node columns plan) = plan_kind world plan
  plan_kind world (overlay_node back operands) = overlaid_kinds world operands
  plan_kind world (cover_node m n a b) = plan_kind world a
  plan_kind world (merge_node a b) = plan_kind world a
  plan_kind world (minus_node a b) = plan_kind world a
  plan_kind world (window_node windows plan) = plan_kind world plan
  plan_kind world (transform_node name pieces plan) = plan_kind world plan
  plan_kind world (gaps_node plan) = kinds.Line

  pub overlaid_kinds : World → Operands → Kind
  overlaid_kinds world no_operand = kinds.Line
  overlaid_kinds world (operand plan operands) = overlaid_kind (plan_kind world plan) (overlaid_kinds world operands)

-- how many columns the plan's rows have
abbrev pub plan_width : World → Plan → ℕ
plan_width world (leaf_node access table windows conditions) = length (table_columns (names.get world.tables table))
plan_width world (where_node conditions plan) = plan_width world plan
plan_width world (dissolve_node columns plan) = length columns
plan_width world (overlay_node back operands) = length back
plan_width world (cover_node m n a b) = m + n
plan_width world (merge_node a b) = plan_width world a
plan_width world (minus_node a b) = plan_width world a
plan_width world (window_node windows plan) = plan_width world plan
plan_width world (transform_node name pieces plan) = plan_width world plan
plan_width world (gaps_node plan) = 0
