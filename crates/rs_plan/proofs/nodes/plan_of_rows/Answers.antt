use Rattle.std.proofs.Common.{sym, ap, ◌∙◌}
use Rattle.rs_plan.specs.Operands.{rows_node}
use Rattle.rs_plan.specs.PlanView.{plan_tree}
use Rattle.rs_plan.proofs.PlanLaws.{merge-tree, merge-names, minus-tree, minus-names}
use Rattle.rs_plan.proofs.nodes.plan_of_rows.Goals as goal

pub returns-in-Merge-clause-tree : goal.returns-in-Merge-clause-tree
returns-in-Merge-clause-tree c =
    merge-tree c.args.first c.args.second ∙ ap (λ operator. rows_node operator (plan_tree c.args.first.value) (plan_tree c.args.second.value)) (sym c.in-Merge.is)

pub returns-in-Merge-clause-names : goal.returns-in-Merge-clause-names
returns-in-Merge-clause-names c = merge-names c.args.first c.args.second

pub returns-in-Minus-clause-tree : goal.returns-in-Minus-clause-tree
returns-in-Minus-clause-tree c =
    minus-tree c.args.first c.args.second ∙ ap (λ operator. rows_node operator (plan_tree c.args.first.value) (plan_tree c.args.second.value)) (sym c.in-Minus.is)

pub returns-in-Minus-clause-names : goal.returns-in-Minus-clause-names
returns-in-Minus-clause-names c = minus-names c.args.first c.args.second
