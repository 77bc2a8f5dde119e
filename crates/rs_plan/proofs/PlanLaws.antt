-- The value of a plan, and what it names, by its outermost node.
use Rattle.std.proofs.Common.{◌≡◌, ℕ, List, ◌++◌, map, flat_map, Vec, Global, sym, ap, ◌∙◌}
use Rattle.std.specs.Prelude.{Box}
use Rattle.arrayvec.specs.ArrayString.{ArrayString}
use Rattle.rs_facts.specs.declared.condition.Condition.{Condition}
use Rattle.rs_planning.specs.Numbered.{Numbered}
use Rattle.rs_planning.specs.Plan as plans
use Rattle.rs_plan.specs.declared.plan.Leaf.{Leaf}
use Rattle.rs_plan.specs.declared.plan.PlannedWindow.{PlannedWindow}
use Rattle.rs_plan.specs.declared.plan.PlannedPiece.{PlannedPiece}
use Rattle.rs_plan.specs.declared.plan.Plan.{Plan, fold-roll-Plan}
use Rattle.rs_plan.specs.declared.plan.Plan.TheVariants as variants
use Rattle.rs_plan.specs.declared.plan.Plan.TheOpen.{Plan-F}
use Rattle.rs_plan.specs.PlanView.{leaf_of, conditions_of, windows_of, piece_of, operands_in, plan_step, plan_tree, named_by_leaf, named_by_window, named_by_piece, named_step, named_in}

pub leaf-tree : (leaf : Leaf) → plan_tree (variants.Leaf leaf) ≡ leaf_of leaf
leaf-tree leaf = ap plan_tree (sym (variants.rolls-Leaf leaf)) ∙ fold-roll-Plan plans.Plan plan_step (Plan-F.Leaf leaf)

pub overlay-tree : (back : Vec ℕ Global) (operands : Vec Plan Global) → plan_tree (variants.Overlay back operands) ≡ plans.overlay_node back.items (operands_in (map plan_tree operands.items))
overlay-tree back operands = ap plan_tree (sym (variants.rolls-Overlay back operands)) ∙ fold-roll-Plan plans.Plan plan_step (Plan-F.Overlay back operands)

pub leaf-names : (leaf : Leaf) → named_in (variants.Leaf leaf) ≡ named_by_leaf leaf
leaf-names leaf = ap named_in (sym (variants.rolls-Leaf leaf)) ∙ fold-roll-Plan (List Numbered) named_step (Plan-F.Leaf leaf)

pub overlay-names : (back : Vec ℕ Global) (operands : Vec Plan Global) → named_in (variants.Overlay back operands) ≡ flat_map (λ named. named) (map named_in operands.items)
overlay-names back operands = ap named_in (sym (variants.rolls-Overlay back operands)) ∙ fold-roll-Plan (List Numbered) named_step (Plan-F.Overlay back operands)

pub where-tree : (conditions : Vec Condition Global) (plan : Box Plan Global) → plan_tree (variants.Where conditions plan) ≡ plans.where_node (conditions_of conditions) (plan_tree plan.value)
where-tree conditions plan = ap plan_tree (sym (variants.rolls-Where conditions plan)) ∙ fold-roll-Plan plans.Plan plan_step (Plan-F.Where conditions plan)

pub where-names : (conditions : Vec Condition Global) (plan : Box Plan Global) → named_in (variants.Where conditions plan) ≡ named_in plan.value
where-names conditions plan = ap named_in (sym (variants.rolls-Where conditions plan)) ∙ fold-roll-Plan (List Numbered) named_step (Plan-F.Where conditions plan)

pub dissolve-tree : (columns : Vec ℕ Global) (plan : Box Plan Global) → plan_tree (variants.Dissolve columns plan) ≡ plans.dissolve_node columns.items (plan_tree plan.value)
dissolve-tree columns plan = ap plan_tree (sym (variants.rolls-Dissolve columns plan)) ∙ fold-roll-Plan plans.Plan plan_step (Plan-F.Dissolve columns plan)

pub dissolve-names : (columns : Vec ℕ Global) (plan : Box Plan Global) → named_in (variants.Dissolve columns plan) ≡ named_in plan.value
dissolve-names columns plan = ap named_in (sym (variants.rolls-Dissolve columns plan)) ∙ fold-roll-Plan (List Numbered) named_step (Plan-F.Dissolve columns plan)

pub window-tree : (windows : Vec PlannedWindow Global) (plan : Box Plan Global) → plan_tree (variants.Window windows plan) ≡ plans.window_node (windows_of windows) (plan_tree plan.value)
window-tree windows plan = ap plan_tree (sym (variants.rolls-Window windows plan)) ∙ fold-roll-Plan plans.Plan plan_step (Plan-F.Window windows plan)

pub window-names : (windows : Vec PlannedWindow Global) (plan : Box Plan Global) → named_in (variants.Window windows plan) ≡ map named_by_window windows.items ++ named_in plan.value
window-names windows plan = ap named_in (sym (variants.rolls-Window windows plan)) ∙ fold-roll-Plan (List Numbered) named_step (Plan-F.Window windows plan)

pub transform-tree : (name : ArrayString) (pieces : Vec PlannedPiece Global) (plan : Box Plan Global) → plan_tree (variants.Transform name pieces plan) ≡ plans.transform_node name.bytes (map piece_of pieces.items) (plan_tree plan.value)
transform-tree name pieces plan = ap plan_tree (sym (variants.rolls-Transform name pieces plan)) ∙ fold-roll-Plan plans.Plan plan_step (Plan-F.Transform name pieces plan)

pub transform-names : (name : ArrayString) (pieces : Vec PlannedPiece Global) (plan : Box Plan Global) → named_in (variants.Transform name pieces plan) ≡ flat_map named_by_piece pieces.items ++ named_in plan.value
transform-names name pieces plan = ap named_in (sym (variants.rolls-Transform name pieces plan)) ∙ fold-roll-Plan (List Numbered) named_step (Plan-F.Transform name pieces plan)

pub gaps-tree : (plan : Box Plan Global) → plan_tree (variants.Gaps plan) ≡ plans.gaps_node (plan_tree plan.value)
gaps-tree plan = ap plan_tree (sym (variants.rolls-Gaps plan)) ∙ fold-roll-Plan plans.Plan plan_step (Plan-F.Gaps plan)

pub gaps-names : (plan : Box Plan Global) → named_in (variants.Gaps plan) ≡ named_in plan.value
gaps-names plan = ap named_in (sym (variants.rolls-Gaps plan)) ∙ fold-roll-Plan (List Numbered) named_step (Plan-F.Gaps plan)

pub cover-tree : (m n : ℕ) (left right : Box Plan Global) → plan_tree (variants.Cover m n left right) ≡ plans.cover_node m n (plan_tree left.value) (plan_tree right.value)
cover-tree m n left right = ap plan_tree (sym (variants.rolls-Cover m n left right)) ∙ fold-roll-Plan plans.Plan plan_step (Plan-F.Cover m n left right)

pub cover-names : (m n : ℕ) (left right : Box Plan Global) → named_in (variants.Cover m n left right) ≡ named_in left.value ++ named_in right.value
cover-names m n left right = ap named_in (sym (variants.rolls-Cover m n left right)) ∙ fold-roll-Plan (List Numbered) named_step (Plan-F.Cover m n left right)

pub merge-tree : (left right : Box Plan Global) → plan_tree (variants.Merge left right) ≡ plans.merge_node (plan_tree left.value) (plan_tree right.value)
merge-tree left right = ap plan_tree (sym (variants.rolls-Merge left right)) ∙ fold-roll-Plan plans.Plan plan_step (Plan-F.Merge left right)

pub merge-names : (left right : Box Plan Global) → named_in (variants.Merge left right) ≡ named_in left.value ++ named_in right.value
merge-names left right = ap named_in (sym (variants.rolls-Merge left right)) ∙ fold-roll-Plan (List Numbered) named_step (Plan-F.Merge left right)

pub minus-tree : (left right : Box Plan Global) → plan_tree (variants.Minus left right) ≡ plans.minus_node (plan_tree left.value) (plan_tree right.value)
minus-tree left right = ap plan_tree (sym (variants.rolls-Minus left right)) ∙ fold-roll-Plan plans.Plan plan_step (Plan-F.Minus left right)

pub minus-names : (left right : Box Plan Global) → named_in (variants.Minus left right) ≡ named_in left.value ++ named_in right.value
minus-names left right = ap named_in (sym (variants.rolls-Minus left right)) ∙ fold-roll-Plan (List Numbered) named_step (Plan-F.Minus left right)
