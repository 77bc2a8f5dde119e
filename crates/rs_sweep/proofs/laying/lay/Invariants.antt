use Rattle.std.proofs.Common.{◌≡◌, ◌≤◌, ◌+◌, ◌-◌, ◌*◌, ◌^◌, min, ◌++◌, length, map, drop}
use Rattle.rs_facts.specs.Spans.{seen}
use Rattle.rs_coalesce.specs.Lent.{seen_lent}
use Rattle.rs_sweep.specs.Inner.{laid}
use Rattle.rs_sweep.proofs.laying.lay.Given as goal

-- What is found so far, and what the span makes with those that are left, is all that it makes.
abbrev pub invariant-loop-other : goal.invariant-loop-other
invariant-loop-other l = record {
  so_far : map seen l.found.items ++ laid l.side (seen l.one) (map seen_lent (drop l.other-index l.others)) ≡ map seen l.initial.found.items ++ laid l.side (seen l.one) (map seen_lent l.others);
  counted : l.comparisons.made + 2 * length (laid l.side (seen l.one) (map seen_lent (drop l.other-index l.others))) ≤ l.initial.comparisons.made + 2 * length (laid l.side (seen l.one) (map seen_lent l.others));
  least : min (l.initial.comparisons.made + 2 * length (laid l.side (seen l.one) (map seen_lent l.others))) (2 ^ 64 - 1) ≤ l.comparisons.made + 2 * length (laid l.side (seen l.one) (map seen_lent (drop l.other-index l.others)));
}
