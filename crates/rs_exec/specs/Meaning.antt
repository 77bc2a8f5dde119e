-- The rows, the kind and the width of a plan by its numbers, and whether it can be evaluated.
use Rattle.std.specs.Prelude.{ℕ, ◌+◌, ◌==◌, Bool, true, false, ◌&&◌, nat_le, List, [], ◌∷◌, length, if◌then◌else◌}
use Rattle.std.specs.List.{list_all}
use Rattle.rs_value.specs.declared.column.Kind.{Kind}
use Rattle.rs_value.specs.declared.column.Kind.TheVariants as kinds
use Rattle.rs_value.specs.declared.column.TheConstants.{COLUMNS}
use Rattle.rs_facts.specs.Condition.{Condition}
use Rattle.rs_facts.specs.Fact.{RowSet, none, Places}
use Rattle.rs_facts.specs.Operators.{mapped, chosen, dissolved, overlaid, covered, merged, without, windowed, carried}
use Rattle.rs_facts.specs.Query.{gapped_on, overlaid_kind}
use Rattle.rs_planning.specs.Plan.{met_by_each, no_columns}
use Rattle.rs_plan.specs.declared.plan.Leaf.{Leaf}
use Rattle.rs_plan.specs.declared.plan.Plan.{Plan, fold-Plan}
use Rattle.rs_plan.specs.declared.plan.Plan.TheOpen.{Plan-F}
use Rattle.rs_plan.specs.declared.plan.PlannedPiece.{PlannedPiece}
use Rattle.rs_plan.specs.declared.plan.PlannedTable.{PlannedTable}
use Rattle.rs_plan.specs.declared.plan.PlannedWindow.{PlannedWindow}
use Rattle.rs_plan.specs.declared.plan.PlannedWindow.TheVariants as windows
use Rattle.rs_plan.specs.PlanView.{conditions_of}
use Rattle.rs_exec.specs.Snapshot.{NumberedTable, Snapshot}

-- ---- windows and pieces by the numbers of routes

abbrev pub route_number : PlannedWindow → ℕ
route_number (windows.Whole route) = route.number
route_number (windows.Part route from to) = route.number

-- the same rows inside the window, on its own route
abbrev pub seen_on_its_route : PlannedWindow → ℕ → RowSet → RowSet
seen_on_its_route (windows.Whole route) k rows = rows
seen_on_its_route (windows.Part route from to) k rows = windowed from to k rows

-- the same rows inside the window, and none elsewhere
abbrev pub seen_through : PlannedWindow → ℕ → ℕ → RowSet → RowSet
seen_through window route k rows = if route_number window == route then seen_on_its_route window k rows else none

-- the same rows inside all the windows, and none elsewhere
abbrev pub seen_through_each : List PlannedWindow → ℕ → ℕ → RowSet → RowSet
seen_through_each [] route k rows = rows
seen_through_each (window ∷ windows) route k rows = seen_through window route k (seen_through_each windows route k rows)

-- the piece is not carried backwards
abbrev pub goes_forwards : PlannedPiece → Bool
goes_forwards piece = nat_le piece.from piece.to

-- what one piece carries to each thousandth of each route
abbrev pub carried_by : PlannedPiece → (ℕ → Places) → ℕ → Places
carried_by piece facts route j = if piece.onto_route.number == route then carried piece.from piece.to piece.onto (facts piece.from_route.number) j else none

-- what any of the pieces carries there
abbrev pub transformed : List PlannedPiece → (ℕ → Places) → ℕ → Places
transformed [] facts route j = none
transformed (piece ∷ pieces) facts route j = merged (carried_by piece facts route j) (transformed pieces facts route j)

-- ---- a plan

-- What is known of a plan: its rows at each thousandth of the route of each number, its kind, how many columns it has,
-- and whether it can be evaluated.
pub record PlanMeaning : Type 0 where
  pub rows : Snapshot → ℕ → Places
  pub kind : Kind
  pub width : ℕ
  pub is_well_formed : Bool

abbrev pub same_kind : Kind → Kind → Bool
same_kind kinds.Line kinds.Line = true
same_kind kinds.Line kinds.Point = false
same_kind kinds.Point kinds.Line = false
same_kind kinds.Point kinds.Point = true

abbrev pub table_of : PlannedTable → NumberedTable
table_of table = record { number = table.number; kind = table.kind; width = table.width }

-- the rows of its table inside all its windows that meet all its conditions
abbrev pub leaf_meaning : Leaf → PlanMeaning
leaf_meaning leaf = record {
  rows = λ snapshot route k. met_by_each (conditions_of leaf.conditions) (seen_through_each leaf.windows.items route k (snapshot.rows (table_of leaf.table) route k));
  kind = leaf.table.kind;
  width = leaf.table.width;
  is_well_formed = nat_le leaf.table.width COLUMNS;
}

abbrev pub where_meaning : List Condition → PlanMeaning → PlanMeaning
where_meaning conditions plan = record {
  rows = λ snapshot route k. met_by_each conditions (plan.rows snapshot route k);
  kind = plan.kind;
  width = plan.width;
  is_well_formed = plan.is_well_formed;
}

abbrev pub dissolve_meaning : List ℕ → PlanMeaning → PlanMeaning
dissolve_meaning columns plan = record {
  rows = λ snapshot route k. dissolved columns (plan.rows snapshot route k);
  kind = plan.kind;
  width = length columns;
  is_well_formed = plan.is_well_formed && nat_le (length columns) COLUMNS;
}

-- the rows of operands side by side
abbrev pub rows_together : List PlanMeaning → Snapshot → ℕ → Places
rows_together [] snapshot route k = no_columns
rows_together (plan ∷ plans) snapshot route k = overlaid (plan.rows snapshot route k) (rows_together plans snapshot route k)

abbrev pub kinds_together : List PlanMeaning → Kind
kinds_together [] = kinds.Line
kinds_together (plan ∷ plans) = overlaid_kind plan.kind (kinds_together plans)

abbrev pub widths_together : List PlanMeaning → ℕ
widths_together [] = 0
widths_together (plan ∷ plans) = plan.width + widths_together plans

-- Each column from the left stands at this place among the operands' columns. There are two operands at least, and as many
-- columns are put back as they have.
abbrev pub overlay_meaning : List ℕ → List PlanMeaning → PlanMeaning
overlay_meaning back operands = record {
  rows = λ snapshot route k. mapped (chosen back) (rows_together operands snapshot route k);
  kind = kinds_together operands;
  width = length back;
  is_well_formed = list_all (λ plan. plan.is_well_formed) operands && (nat_le 2 (length operands) && (widths_together operands == length back && nat_le (length back) COLUMNS));
}

-- the widths are those of the operands, which are of one kind
abbrev pub cover_meaning : ℕ → ℕ → PlanMeaning → PlanMeaning → PlanMeaning
cover_meaning m n left right = record {
  rows = λ snapshot route k. covered m n (left.rows snapshot route k) (right.rows snapshot route k);
  kind = left.kind;
  width = m + n;
  is_well_formed = (left.is_well_formed && right.is_well_formed) && ((nat_le (m + n) COLUMNS && (m == left.width && n == right.width)) && same_kind left.kind right.kind);
}

-- the operands are of one kind and width
abbrev pub are_alike : PlanMeaning → PlanMeaning → Bool
are_alike left right = (left.is_well_formed && right.is_well_formed) && (same_kind left.kind right.kind && left.width == right.width)

abbrev pub merge_meaning : PlanMeaning → PlanMeaning → PlanMeaning
merge_meaning left right = record {
  rows = λ snapshot route k. merged (left.rows snapshot route k) (right.rows snapshot route k);
  kind = left.kind;
  width = left.width;
  is_well_formed = are_alike left right;
}

abbrev pub minus_meaning : PlanMeaning → PlanMeaning → PlanMeaning
minus_meaning left right = record {
  rows = λ snapshot route k. without (left.rows snapshot route k) (right.rows snapshot route k);
  kind = left.kind;
  width = left.width;
  is_well_formed = are_alike left right;
}

-- there is a window
abbrev pub window_meaning : List PlannedWindow → PlanMeaning → PlanMeaning
window_meaning windows plan = record {
  rows = λ snapshot route k. seen_through_each windows route k (plan.rows snapshot route k);
  kind = plan.kind;
  width = plan.width;
  is_well_formed = plan.is_well_formed && nat_le 1 (length windows);
}

-- pieces go forwards
abbrev pub transform_meaning : List PlannedPiece → PlanMeaning → PlanMeaning
transform_meaning pieces plan = record {
  rows = λ snapshot route k. transformed pieces (plan.rows snapshot) route k;
  kind = plan.kind;
  width = plan.width;
  is_well_formed = plan.is_well_formed && list_all goes_forwards pieces;
}

-- between the ends that the snapshot has for the route, where the operand has no row
abbrev pub gaps_meaning : PlanMeaning → PlanMeaning
gaps_meaning plan = record {
  rows = λ snapshot route k. gapped_on (snapshot.ends route) k (plan.rows snapshot route k);
  kind = kinds.Line;
  width = 0;
  is_well_formed = plan.is_well_formed;
}

-- one level, with the meaning of each operand in its place
abbrev pub meaning_step : Plan-F PlanMeaning → PlanMeaning
meaning_step (Plan-F.Leaf leaf) = leaf_meaning leaf
meaning_step (Plan-F.Where conditions plan) = where_meaning (conditions_of conditions) plan.value
meaning_step (Plan-F.Dissolve columns plan) = dissolve_meaning columns.items plan.value
meaning_step (Plan-F.Overlay back operands) = overlay_meaning back.items operands.items
meaning_step (Plan-F.Cover left_width right_width left right) = cover_meaning left_width right_width left.value right.value
meaning_step (Plan-F.Merge left right) = merge_meaning left.value right.value
meaning_step (Plan-F.Minus left right) = minus_meaning left.value right.value
meaning_step (Plan-F.Window windows plan) = window_meaning windows.items plan.value
meaning_step (Plan-F.Transform name pieces plan) = transform_meaning pieces.items plan.value
meaning_step (Plan-F.Gaps plan) = gaps_meaning plan.value

abbrev pub meaning_of : Plan → PlanMeaning
meaning_of = fold-Plan PlanMeaning meaning_step

-- which rows the plan has on the route of a number
abbrev pub rows_in : Plan → Snapshot → ℕ → Places
rows_in plan = (meaning_of plan).rows

abbrev pub kind_in : Plan → Kind
kind_in plan = (meaning_of plan).kind

abbrev pub width_in : Plan → ℕ
width_in plan = (meaning_of plan).width

-- rows are nowhere wider than a row may be, and each node has what it asks of its operands
abbrev pub is_well_formed : Plan → Bool
is_well_formed plan = (meaning_of plan).is_well_formed
