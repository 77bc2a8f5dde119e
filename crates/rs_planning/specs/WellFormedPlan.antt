-- What the plan of a checked query keeps to, so that it can be evaluated.
use Rattle.std.specs.Prelude.{◌≡◌, ℕ, ◌+◌, ◌≤◌, length, Some}
use Rattle.std.specs.FinMap as names
use Rattle.rs_value.specs.declared.column.TheConstants.{COLUMNS}
use Rattle.rs_facts.specs.Query.{Table, World}
use Rattle.rs_facts.specs.WellFormed.{ArePiecesOn}
use Rattle.rs_planning.specs.Checked.{AreBelow, ReadBelow}
use Rattle.rs_planning.specs.Explain.{operands_counted}
use Rattle.rs_planning.specs.Plan.{Plan, leaf_node, where_node, dissolve_node, overlay_node, cover_node, merge_node, minus_node, window_node, transform_node, gaps_node, Operands, no_operand, operand, plan_kind, plan_width}

abbrev pub IsNoOverlay : Plan → Type 0
IsNoOverlay (overlay_node back operands) = ⊥
IsNoOverlay plan = Unit {0}

-- how many columns the operands have together
abbrev pub operands_width : World → Operands → ℕ
operands_width world no_operand = 0
operands_width world (operand plan operands) = plan_width world plan + operands_width world operands

-- Tables are there, and rows nowhere wider than a row may be; conditions read columns that the rows have. A WHERE has a
-- condition, a WINDOW a window. An OVERLAY has two operands at least, none an OVERLAY itself, and puts back as many
-- columns as they have. COVER knows the widths of its operands; operands of COVER, MERGE and MINUS are of one kind, those
-- of MERGE and MINUS of one width. Pieces lie on routes that are there.
abbrev mutual
  pub IsWellFormedPlan : World → Plan → Type 0
  IsWellFormedPlan world (leaf_node access name windows conditions) = (table : Table) × (names.get world.tables name ≡ Some table) × (length table.columns ≤ COLUMNS) × ReadBelow (length table.columns) conditions
  IsWellFormedPlan world (where_node conditions plan) = IsWellFormedPlan world plan × (1 ≤ length conditions) × ReadBelow (plan_width world plan) conditions
  IsWellFormedPlan world (dissolve_node columns plan) = IsWellFormedPlan world plan × (length columns ≤ COLUMNS) × AreBelow (plan_width world plan) columns
  IsWellFormedPlan world (overlay_node back operands) = AreWellFormedOperands world operands × (2 ≤ operands_counted operands) × (operands_width world operands ≡ length back) × (length back ≤ COLUMNS)
  IsWellFormedPlan world (cover_node m n a b) = IsWellFormedPlan world a × IsWellFormedPlan world b × (m + n ≤ COLUMNS) × (m ≡ plan_width world a) × (n ≡ plan_width world b) × (plan_kind world a ≡ plan_kind world b)
  IsWellFormedPlan world (merge_node a b) = IsWellFormedPlan world a × IsWellFormedPlan world b × (plan_kind world a ≡ plan_kind world b) × (plan_width world a ≡ plan_width world b)
  IsWellFormedPlan world (minus_node a b) = IsWellFormedPlan world a × IsWellFormedPlan world b × (plan_kind world a ≡ plan_kind world b) × (plan_width world a ≡ plan_width world b)
  IsWellFormedPlan world (window_node windows plan) = IsWellFormedPlan world plan × (1 ≤ length windows)
  IsWellFormedPlan world (transform_node name pieces plan) = IsWellFormedPlan world plan × ArePiecesOn world.routes pieces
  IsWellFormedPlan world (gaps_node plan) = IsWellFormedPlan world plan

  pub AreWellFormedOperands : World → Operands → Type 0
  AreWellFormedOperands world no_operand = Unit {0}
  AreWellFormedOperands world (operand plan operands) = IsWellFormedPlan world plan × IsNoOverlay plan × AreWellFormedOperands world operands
