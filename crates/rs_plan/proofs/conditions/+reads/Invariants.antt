use Rattle.std.proofs.Common.{◌≡◌, drop}
use Rattle.std.specs.List.{list_all}
use Rattle.rs_facts.specs.ConditionView.{condition_of}
use Rattle.rs_planning.specs.Conjuncts.{columns_read}
use Rattle.rs_plan.specs.Conditions.{is_within}
use Rattle.rs_plan.proofs.conditions.+reads.Given as goal

abbrev pub invariant-each_reads_only-loop-part : goal.invariant-each_reads_only-loop-part
invariant-each_reads_only-loop-part l =
    list_all (λ part. list_all (is_within l.columns) (columns_read (condition_of part))) l.parts
    ≡ list_all (λ part. list_all (is_within l.columns) (columns_read (condition_of part))) (drop l.part-index l.parts)
