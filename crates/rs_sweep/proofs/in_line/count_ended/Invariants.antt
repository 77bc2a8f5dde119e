use Rattle.std.proofs.Common.{◌≤◌, map, take, length, ◌-◌}
use Rattle.std.specs.List.{AllByRecursion}
use Rattle.rs_coalesce.specs.Lent.{seen_lent}
use Rattle.rs_facts.specs.Runs.{Stretch}
use Rattle.rs_sweep.proofs.in_line.count_ended.Given as goal

abbrev pub invariant-loop-count : goal.invariant-loop-count
invariant-loop-count l = record {
  within : l.count ≤ length l.spans;
  ended : AllByRecursion (λ (s : Stretch). s.hi ≤ l.lo) (take l.count (map seen_lent l.spans));
}

abbrev pub decreases-loop-count : goal.decreases-loop-count
decreases-loop-count l = length l.spans - l.count
