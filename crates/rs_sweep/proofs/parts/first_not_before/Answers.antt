use Rattle.std.proofs.Common.{◌≡◌, true, false, rules}
use Rattle.std.proofs.lemmas.List.Sorted.{IsPartitionPoint-from_clause}
use Rattle.std.specs.List.Sorted.{IsPartitionPoint}
use Rattle.rs_facts.specs.Spans.{seen}
use Rattle.rs_sweep.specs.Taken.{keyed, taken_of, ends_before}
use Rattle.rs_sweep.proofs.PartLaws.{partitioned, every-front, every-back}
use Rattle.rs_sweep.proofs.parts.first_not_before.Goals as goal

point : (c : goal.After-partition_point) → IsPartitionPoint (λ s. ends_before (taken_of c.args.rows s) (keyed c.args.rows (seen c.args.span.now)) ≡ true) (λ s. ends_before (taken_of c.args.rows s) (keyed c.args.rows (seen c.args.span.now)) ≡ false) c.args.taken.now c.partition_point.result
point c =
    IsPartitionPoint-from_clause (λ s. ends_before (taken_of c.args.rows s) (keyed c.args.rows (seen c.args.span.now))) _ _ c.partition_point.ensures.partitioned
    (partitioned (taken_of c.args.rows) (keyed c.args.rows (seen c.args.span.now)) c.args.taken.now c.requires) (λ a r q k. search rules)

pub returns-clause-front : goal.returns-clause-front
returns-clause-front c = every-front (taken_of c.args.rows) (keyed c.args.rows (seen c.args.span.now)) c.args.taken.now c.partition_point.result c.partition_point.ensures.bound (point c).0

pub returns-clause-back : goal.returns-clause-back
returns-clause-back c = every-back (taken_of c.args.rows) (keyed c.args.rows (seen c.args.span.now)) c.args.taken.now c.partition_point.result (point c).1
