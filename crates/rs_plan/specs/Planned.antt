-- What planning promises of the plan of a checked query.
use Rattle.std.specs.Prelude.{◌≡◌, ◌++◌, map, Contains}
use Rattle.std.specs.List.{AllByRecursion}
use Rattle.rs_planning.specs.Basis.{Basis}
use Rattle.rs_planning.specs.Rule.{plan_of}
use Rattle.rs_checker.specs.declared.checked.Checked.{Checked}
use Rattle.rs_checker.specs.CheckedView as checking
use Rattle.rs_plan.specs.declared.plan.Plan.{Plan}
use Rattle.rs_plan.specs.Counted.{Counted, named_index, StandsFor}
use Rattle.rs_plan.specs.PlanView.{plan_tree, named_in}

-- By whatever basis the counts stand for on the query, it is the plan that the rule gives. The tables, routes and indexes
-- that it names have the numbers of the query's and of the counts'.
pub record IsPlanOf (counted : Counted) (checked : Checked) (plan : Plan) : Type 0 where
  pub tree : (basis : Basis) → StandsFor counted basis (checking.query_of checked.query) (checking.named_in checked.query) → plan_tree plan ≡ plan_of basis (checking.query_of checked.query)
  pub numbers : AllByRecursion (Contains (checking.named_in checked.query ++ map named_index counted.indexes)) (named_in plan)
