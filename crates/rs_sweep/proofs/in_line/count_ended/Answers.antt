use Rattle.std.proofs.Common.{◌≤◌, map, take, subst, sym, add-one, arith}
use Rattle.std.specs.List.{AllByRecursion}
use Rattle.rs_coalesce.specs.Lent.{seen_lent}
use Rattle.rs_facts.specs.Runs.{Stretch}
use Rattle.rs_sweep.proofs.PartLaws.{ended-next}
use Rattle.rs_sweep.proofs.in_line.count_ended.Goals as goal

pub loop-count-preserved : goal.loop-count-preserved
loop-count-preserved c = record {
  within = omega (arith, c.loop-count-test.true);
  ended = subst (λ n. AllByRecursion (λ (s : Stretch). s.hi ≤ c.args.lo) (take n (map seen_lent c.args.spans.now))) (sym (add-one c.loop-count.count))
      (ended-next c.loop-count.count c.args.lo c.args.spans.now c.index-spans-count.result c.loop-count-test.true c.loop-count.invariant.ended c.if-spans-count.true);
}
