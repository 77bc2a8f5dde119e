use Rattle.std.proofs.Common.{sym, ap, ◌∙◌}
use Rattle.rs_facts.specs.Condition as said
use Rattle.rs_facts.specs.ConditionView.{condition_of}
use Rattle.rs_sweep.specs.Tests.{all_met, any_met}
use Rattle.rs_sweep.proofs.TestLaws.{met-false, any-true, met-true, any-false, met-end, any-end, both-met, either-met}
use Rattle.rs_sweep.proofs.conditions.+meeting.Goals as goal

pub meets-returns-in-Both : goal.meets-returns-in-Both
meets-returns-in-Both t c =
    c.meets_all.ensures ∙ ap (λ zs. all_met zs c.args.row.now) c.as_slice.ensures.value
    ∙ both-met c.in-Both.parts c.args.row.now
    ∙ sym (ap (λ x. said.meets (condition_of x) c.args.row.now) c.in-Both.is)

pub meets-returns-in-Either : goal.meets-returns-in-Either
meets-returns-in-Either t c =
    c.meets_any.ensures ∙ ap (λ zs. any_met zs c.args.row.now) c.as_slice-in-Either.ensures.value
    ∙ either-met c.in-Either.parts c.args.row.now
    ∙ sym (ap (λ x. said.meets (condition_of x) c.args.row.now) c.in-Either.is)

pub meets_all-returns-then-not-meets : goal.meets_all-returns-then-not-meets
meets_all-returns-then-not-meets t c = met-false c.args.row.now c.args.parts.now c.loop-part.part-index c.part-item.result c.meets.result _ c.loop-part-test.true c.part-item.is c.meets.ensures c.loop-part.invariant c.if-not-meets.true

pub meets_all-loop-part-preserved : goal.meets_all-loop-part-preserved
meets_all-loop-part-preserved t c = met-true c.args.row.now c.args.parts.now c.loop-part.part-index c.part-item.result c.meets.result _ c.loop-part-test.true c.part-item.is c.meets.ensures c.loop-part.invariant c.if-not-meets.false

pub meets_all-returns : goal.meets_all-returns
meets_all-returns t c = met-end c.args.row.now c.args.parts.now c.loop-part.part-index _ c.loop-part-test.false c.loop-part.invariant

pub meets_any-returns-then-meets : goal.meets_any-returns-then-meets
meets_any-returns-then-meets t c = any-true c.args.row.now c.args.parts.now c.loop-part.part-index c.part-item.result c.meets.result _ c.loop-part-test.true c.part-item.is c.meets.ensures c.loop-part.invariant c.if-meets.true

pub meets_any-loop-part-preserved : goal.meets_any-loop-part-preserved
meets_any-loop-part-preserved t c = any-false c.args.row.now c.args.parts.now c.loop-part.part-index c.part-item.result c.meets.result _ c.loop-part-test.true c.part-item.is c.meets.ensures c.loop-part.invariant c.if-meets.false

pub meets_any-returns : goal.meets_any-returns
meets_any-returns t c = any-end c.args.row.now c.args.parts.now c.loop-part.part-index _ c.loop-part-test.false c.loop-part.invariant
