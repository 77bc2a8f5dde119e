-- A plan that is still to be evaluated, by its topmost node.
use Rattle.std.specs.Prelude.{ℕ, suc, ◌+◌, ◌&&◌, nat_le, List, [], ◌∷◌, map}
use Rattle.std.specs.List.{list_all}
use Rattle.rs_value.specs.declared.column.TheConstants.{COLUMNS}
use Rattle.rs_facts.specs.ConditionView.{condition_of}
use Rattle.rs_facts.specs.Operators.{overlaid}
use Rattle.rs_facts.specs.Query.{overlaid_kind}
use Rattle.rs_plan.specs.declared.plan.Plan.{Plan, fold-Plan}
use Rattle.rs_plan.specs.declared.plan.Plan.TheOpen.{Plan-F}
use Rattle.rs_exec.specs.declared.changes.Change.{Change}
use Rattle.rs_exec.specs.declared.changes.Change.TheVariants as changes
use Rattle.rs_exec.specs.declared.operand.Operand.{Operand}
use Rattle.rs_exec.specs.declared.operand.Operands.{Operands}
use Rattle.rs_exec.specs.declared.operand.Node.{Node}
use Rattle.rs_exec.specs.declared.operand.Node.TheVariants as nodes
use Rattle.rs_exec.specs.declared.pairs.Pairing.{Pairing}
use Rattle.rs_exec.specs.declared.pairs.Pairing.TheVariants as pairings
use Rattle.rs_exec.specs.Meaning.{PlanMeaning, rows_together, kinds_together, widths_together, meaning_of, leaf_meaning, where_meaning, dissolve_meaning, overlay_meaning, cover_meaning, merge_meaning, minus_meaning, window_meaning, transform_meaning, gaps_meaning}

abbrev pub operand_meaning : Operand → PlanMeaning
operand_meaning operand = meaning_of operand.plan.now

abbrev pub operands_meaning : Operands → List PlanMeaning
operands_meaning operands = map meaning_of operands.plans.now

abbrev pub changed_meaning : Change → PlanMeaning → PlanMeaning
changed_meaning (changes.Where conditions) plan = where_meaning (map condition_of conditions.now) plan
changed_meaning (changes.Dissolve columns) plan = dissolve_meaning columns.now plan

-- the rows of two operands side by side
abbrev pub beside_meaning : PlanMeaning → PlanMeaning → PlanMeaning
beside_meaning left right = record {
  rows = λ snapshot route k. overlaid (left.rows snapshot route k) (right.rows snapshot route k);
  kind = overlaid_kind left.kind right.kind;
  width = left.width + right.width;
  is_well_formed = (left.is_well_formed && right.is_well_formed) && nat_le (left.width + right.width) COLUMNS;
}

-- the rows of several operands side by side
abbrev pub together_meaning : List PlanMeaning → PlanMeaning
together_meaning plans = record {
  rows = rows_together plans;
  kind = kinds_together plans;
  width = widths_together plans;
  is_well_formed = list_all (λ plan. plan.is_well_formed) plans && nat_le (widths_together plans) COLUMNS;
}

abbrev pub paired_meaning : Pairing → PlanMeaning → PlanMeaning → PlanMeaning
paired_meaning pairings.Overlay left right = beside_meaning left right
paired_meaning (pairings.Cover m n) left right = cover_meaning m n left right
paired_meaning pairings.Merge left right = merge_meaning left right
paired_meaning pairings.Minus left right = minus_meaning left right

abbrev pub node_meaning : Node → PlanMeaning
node_meaning (nodes.Leaf leaf) = leaf_meaning leaf.now
node_meaning (nodes.Changed change operand) = changed_meaning change (operand_meaning operand)
node_meaning (nodes.Overlaid back operands) = overlay_meaning back.now (operands_meaning operands)
node_meaning (nodes.Paired pairing left right) = paired_meaning pairing (operand_meaning left) (operand_meaning right)
node_meaning (nodes.Seen windows operand) = window_meaning windows.now (operand_meaning operand)
node_meaning (nodes.Carried pieces operand) = transform_meaning pieces.now (operand_meaning operand)
node_meaning (nodes.Gaps operand) = gaps_meaning (operand_meaning operand)

-- ---- how many nodes a plan has; an operand of an OVERLAY counts for one more

abbrev pub sizes_together : List ℕ → ℕ
sizes_together [] = 0
sizes_together (size ∷ sizes) = suc size + sizes_together sizes

abbrev pub size_step : Plan-F ℕ → ℕ
size_step (Plan-F.Leaf leaf) = 1
size_step (Plan-F.Where conditions plan) = suc plan.value
size_step (Plan-F.Dissolve columns plan) = suc plan.value
size_step (Plan-F.Overlay back operands) = suc (sizes_together operands.items)
size_step (Plan-F.Cover left_width right_width left right) = suc (left.value + right.value)
size_step (Plan-F.Merge left right) = suc (left.value + right.value)
size_step (Plan-F.Minus left right) = suc (left.value + right.value)
size_step (Plan-F.Window windows plan) = suc plan.value
size_step (Plan-F.Transform name pieces plan) = suc plan.value
size_step (Plan-F.Gaps plan) = suc plan.value

abbrev pub size_of : Plan → ℕ
size_of = fold-Plan ℕ size_step

abbrev pub operand_size : Operand → ℕ
operand_size operand = size_of operand.plan.now

abbrev pub operands_size : Operands → ℕ
operands_size operands = sizes_together (map size_of operands.plans.now)

abbrev pub node_size : Node → ℕ
node_size (nodes.Leaf leaf) = 1
node_size (nodes.Changed change operand) = suc (operand_size operand)
node_size (nodes.Overlaid back operands) = suc (operands_size operands)
node_size (nodes.Paired pairing left right) = suc (operand_size left + operand_size right)
node_size (nodes.Seen windows operand) = suc (operand_size operand)
node_size (nodes.Carried pieces operand) = suc (operand_size operand)
node_size (nodes.Gaps operand) = suc (operand_size operand)
