use Rattle.std.proofs.Common.{◌≡◌, ◌++◌, map, length}
use Rattle.rs_plan.proofs.overlays.plans_of.Given as goal

abbrev pub invariant-loop-one : goal.invariant-loop-one
invariant-loop-one l = record {
  listed : length l.one-iterator.rest.items ≡ l.one-iterator.rest.len;
  whole : l.plans.items ++ map (λ one. one.operand.plan) l.one-iterator.rest.items ≡ map (λ one. one.operand.plan) l.fn.written.items;
}
