use Rattle.std.proofs.Common.{map, take, ap, ◌∙◌}
use Rattle.rs_facts.proofs.KeptColumns.{chosen_is}
use Rattle.rs_facts.specs.declared.fact.Span.{Span}
use Rattle.rs_facts.specs.Spans.{seen}
use Rattle.rs_total.specs.Counting.{kept_in, kept_with, kept_along}
use Rattle.rs_total.specs.Tally.{kept_of}
use Rattle.rs_total.proofs.Stepping.{kept-none, kept-more}
use Rattle.rs_total.proofs.groups.add_spans.Goals as goal

pub loop-span-init : goal.loop-span-init
loop-span-init c = λ group. kept-none seen c.args.by.now c.args.summed c.args.start group (kept_of c.args.groups.now.entries group)

pub loop-span-preserved : goal.loop-span-preserved
loop-span-preserved c = λ group.
    let before = kept_along c.args.by.now c.args.summed c.args.start group (kept_of c.args.groups.now.entries group) (map seen (take c.loop-span.span-index c.args.spans.now)) in
    c.in_ok-add_to.ensures group
    ∙ ap (λ row. kept_in c.args.summed c.args.start row group (kept_of c.loop-span.groups.entries group) (seen c.span-item.result)) (chosen_is c.args.by.now _ _ c.in_ok-group-2.ensures)
    ∙ ap (λ kept. kept_with c.args.by.now c.args.summed c.args.start group kept (seen c.span-item.result)) (c.loop-span.invariant group)
    ∙ ap (λ (span : Span). kept_with c.args.by.now c.args.summed c.args.start group before (seen span)) c.span-item.is
    ∙ kept-more seen c.args.by.now c.args.summed c.args.start group (kept_of c.args.groups.now.entries group) c.args.spans.now c.loop-span.span-index c.span-item.result c.loop-span-test.true
