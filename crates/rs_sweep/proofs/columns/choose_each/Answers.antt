use Rattle.std.proofs.Common.{map, get_or, refl, ap, ◌∙◌, arith}
use Rattle.rs_facts.proofs.KeptColumns.{chosen_is}
use Rattle.rs_facts.specs.Runs.{stretch}
use Rattle.rs_facts.specs.Spans.{seen}
use Rattle.rs_sweep.specs.Inner.{in_columns}
use Rattle.rs_sweep.proofs.InPlace.{edits-more, edits-end}
use Rattle.rs_sweep.proofs.columns.choose_each.Goals as goal

pub loop-span-init : goal.loop-span-init
loop-span-init c = refl

pub loop-span-preserved : goal.loop-span-preserved
loop-span-preserved c = edits-more (in_columns c.args.columns.now) c.loop-span.span-items c.loop-span.span-index _ c.span-item.result _ (omega (arith, c.loop-span-test.true, c.loop-span.auto.span-items)) (λ i. stretch (get_or c.loop-span.span-items c.loop-span.span-index c.span-item.result).lo (get_or c.loop-span.span-items c.loop-span.span-index c.span-item.result).hi (chosen_is c.args.columns.now _ _ c.in_ok-span.ensures i)) c.loop-span.invariant

pub returns : goal.returns
returns c = edits-end (in_columns c.args.columns.now) c.loop-span.span-items c.loop-span.span-index c.args.spans.now.len c.args.spans.now.items _ (omega (arith, c.loop-span-test.false, c.loop-span.auto.span-items)) (omega (arith, c.loop-span.auto.span-items, c.deref_mut-span-items.ensures.len)) (c.loop-span.invariant ∙ ap (λ zs. map (in_columns c.args.columns.now) (map seen zs)) c.deref_mut-span-items.ensures.value)
