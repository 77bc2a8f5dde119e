use Rattle.std.proofs.Common.{◌≡◌, ◌≤◌, ◌++◌, map, take, length}
use Rattle.rs_plan.specs.Lines.{lines_of, lines_from_each}
use Rattle.rs_plan.specs.PlanView.{plan_tree}
use Rattle.rs_plan.proofs.explaining.+lines.Given as goal

abbrev pub invariant-lines_of_each-loop-plan : goal.invariant-lines_of_each-loop-plan
invariant-lines_of_each-loop-plan l = record {
  below : l.depth ≤ length l.all.items;
  lines : lines_of l.all ≡ lines_of l.initial.all ++ lines_from_each l.depth (map plan_tree (take l.plan-index l.plans));
}
