-- The value of a plan of the code, and what it names by number.
use Rattle.std.specs.Prelude.{List, [], ◌∷◌, ◌++◌, map, flat_map, Vec}
use Rattle.std.specs.declared.alloc.Global.{Global}
use Rattle.rs_facts.specs.Condition as said
use Rattle.rs_facts.specs.ConditionView.{condition_of}
use Rattle.rs_facts.specs.declared.condition.Condition.{Condition}
use Rattle.rs_facts.specs.Query as queries
use Rattle.rs_planning.specs.Numbered.{Numbered, numbered_table, numbered_route, numbered_index}
use Rattle.rs_planning.specs.Plan as plans
use Rattle.rs_plan.specs.declared.plan.Access.{Access}
use Rattle.rs_plan.specs.declared.plan.Access.TheVariants as accesses
use Rattle.rs_plan.specs.declared.plan.PlannedTable.{PlannedTable}
use Rattle.rs_plan.specs.declared.plan.PlannedRoute.{PlannedRoute}
use Rattle.rs_plan.specs.declared.plan.PlannedWindow.{PlannedWindow}
use Rattle.rs_plan.specs.declared.plan.PlannedWindow.TheVariants as windows
use Rattle.rs_plan.specs.declared.plan.PlannedPiece.{PlannedPiece}
use Rattle.rs_plan.specs.declared.plan.Leaf.{Leaf}
use Rattle.rs_plan.specs.declared.plan.Plan.{Plan, fold-Plan}
use Rattle.rs_plan.specs.declared.plan.Plan.TheOpen.{Plan-F}

abbrev pub access_of : Access → plans.Access
access_of accesses.Scan = plans.scan
access_of accesses.Range = plans.range
access_of (accesses.Index index) = plans.index index.name.bytes

abbrev pub window_of : PlannedWindow → queries.Window
window_of (windows.Whole route) = queries.on_route route.name.bytes
window_of (windows.Part route from to) = queries.between route.name.bytes from to

abbrev pub piece_of : PlannedPiece → queries.Piece
piece_of piece = record { from_route = piece.from_route.name.bytes; from = piece.from; to = piece.to; onto_route = piece.onto_route.name.bytes; onto = piece.onto }

abbrev pub windows_of : Vec PlannedWindow Global → List queries.Window
windows_of windows = map window_of windows.items

abbrev pub conditions_of : Vec Condition Global → List said.Condition
conditions_of conditions = map condition_of conditions.items

abbrev pub leaf_of : Leaf → plans.Plan
leaf_of leaf = plans.leaf_node (access_of leaf.access) leaf.table.name.bytes (windows_of leaf.windows) (conditions_of leaf.conditions)

-- operands in the order in which they are evaluated
abbrev pub operands_in : List plans.Plan → plans.Operands
operands_in [] = plans.no_operand
operands_in (plan ∷ others) = plans.operand plan (operands_in others)

-- one level, with the value of each operand in its place
abbrev pub plan_step : Plan-F plans.Plan → plans.Plan
plan_step (Plan-F.Leaf leaf) = leaf_of leaf
plan_step (Plan-F.Where conditions plan) = plans.where_node (conditions_of conditions) plan.value
plan_step (Plan-F.Dissolve columns plan) = plans.dissolve_node columns.items plan.value
plan_step (Plan-F.Overlay back operands) = plans.overlay_node back.items (operands_in operands.items)
plan_step (Plan-F.Cover left_width right_width left right) = plans.cover_node left_width right_width left.value right.value
plan_step (Plan-F.Merge left right) = plans.merge_node left.value right.value
plan_step (Plan-F.Minus left right) = plans.minus_node left.value right.value
plan_step (Plan-F.Window windows plan) = plans.window_node (windows_of windows) plan.value
plan_step (Plan-F.Transform name pieces plan) = plans.transform_node name.bytes (map piece_of pieces.items) plan.value
plan_step (Plan-F.Gaps plan) = plans.gaps_node plan.value

abbrev pub plan_tree : Plan → plans.Plan
plan_tree = fold-Plan plans.Plan plan_step

-- ---- what it names

abbrev pub named_route : PlannedRoute → Numbered
named_route route = numbered_route route.name.bytes route.number

abbrev pub named_by_access : Access → List Numbered
named_by_access accesses.Scan = []
named_by_access accesses.Range = []
named_by_access (accesses.Index index) = numbered_index index.name.bytes index.number ∷ []

abbrev pub named_by_window : PlannedWindow → Numbered
named_by_window (windows.Whole route) = named_route route
named_by_window (windows.Part route from to) = named_route route

abbrev pub named_by_piece : PlannedPiece → List Numbered
named_by_piece piece = named_route piece.from_route ∷ named_route piece.onto_route ∷ []

abbrev pub named_table : PlannedTable → Numbered
named_table table = numbered_table table.name.bytes table.number table.kind table.width

abbrev pub named_by_leaf : Leaf → List Numbered
named_by_leaf leaf = named_table leaf.table ∷ named_by_access leaf.access ++ map named_by_window leaf.windows.items

-- one level, with what each operand names in its place
abbrev pub named_step : Plan-F (List Numbered) → List Numbered
named_step (Plan-F.Leaf leaf) = named_by_leaf leaf
named_step (Plan-F.Where conditions plan) = plan.value
named_step (Plan-F.Dissolve columns plan) = plan.value
named_step (Plan-F.Overlay back operands) = flat_map (λ named. named) operands.items
named_step (Plan-F.Cover left_width right_width left right) = left.value ++ right.value
named_step (Plan-F.Merge left right) = left.value ++ right.value
named_step (Plan-F.Minus left right) = left.value ++ right.value
named_step (Plan-F.Window windows plan) = map named_by_window windows.items ++ plan.value
named_step (Plan-F.Transform name pieces plan) = flat_map named_by_piece pieces.items ++ plan.value
named_step (Plan-F.Gaps plan) = plan.value

-- the tables, routes and indexes that the plan names
abbrev pub named_in : Plan → List Numbered
named_in = fold-Plan (List Numbered) named_step
