-- One run after the other.
use Rattle.std.proofs.Common.{◌≡◌, ◌+◌, ◌-◌, ◌*◌, drop, subst, take, arith}
use Rattle.std.specs.List.{AllByRecursion}
use Rattle.rs_file_parts.specs.Inner.{HasNoneDead}
use Rattle.rs_file_parts.proofs.Looked.{all_more}
use Rattle.rs_file_parts.proofs.looking.have_none_dead.Goals as goal

pub loop-run-preserved : goal.loop-run-preserved
loop-run-preserved c =
    let tables = c.args.tables.now in
    let at = c.loop-run.run * 8 in
    let many : (at + 8) - at ≡ 8 = omega arith in
    let next : at + 8 ≡ (c.loop-run.run + 1) * 8 = omega arith in
    record {
      none = subst (λ n. AllByRecursion HasNoneDead (take n tables)) next
          (all_more HasNoneDead tables at 8 c.loop-run.invariant.none (subst (λ n. AllByRecursion HasNoneDead (take n (drop at tables))) many (c.has_dead.ensures c.if-has_dead.false)));
      inside = omega (arith, c.loop-run-test.true);
    }
