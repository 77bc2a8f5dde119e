use Rattle.std.proofs.Common.{◌≤◌, map, take, refl, subst, arith}
use Rattle.std.specs.List.{AllByRecursion}
use Rattle.rs_coalesce.specs.Lent.{seen_lent}
use Rattle.rs_facts.specs.Runs.{Stretch}
use Rattle.rs_sweep.proofs.PartLaws.{ended-more, rest-is}
use Rattle.rs_sweep.proofs.difference.next_first.Goals as goal

pub returns-clause-ended : goal.returns-clause-ended
returns-clause-ended c = ended-more c.args.first c.count_ended-2.result _ c.args.lo c.args.reach (map seen_lent c.args.right.now) (omega (arith, c.if-lo-reach.false)) c.requires.ended
    (subst (λ zs. AllByRecursion (λ (s : Stretch). s.hi ≤ c.args.lo) (take c.count_ended-2.result zs)) (rest-is c.args.first c.args.right.now) c.count_ended-2.ensures.ended) refl
