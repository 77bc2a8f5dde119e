use Rattle.std.proofs.Common.{◌≡◌, drop, map}
use Rattle.std.specs.List.{list_all}
use Rattle.rs_answers.specs.Within.{is_local}
use Rattle.rs_answers.proofs.within.+local.Given as goal

-- all are local where those that are left are
abbrev pub invariant-are_local-loop-plan : goal.invariant-are_local-loop-plan
invariant-are_local-loop-plan l = list_all (λ local. local) (map is_local (drop l.plan-index l.plans)) ≡ list_all (λ local. local) (map is_local l.plans)
