use Rattle.std.proofs.Common.{refl}
use Rattle.rs_facts.specs.Spans.{seen}
use Rattle.rs_sweep.specs.Inner.{joined_with}
use Rattle.rs_sweep.proofs.CutLaws.{parts-pushed, parts-end}
use Rattle.rs_sweep.proofs.covering.add_padded.Goals as goal

pub loop-part-preserved : goal.loop-part-preserved
loop-part-preserved c = parts-pushed (joined_with c.args.side c.args.nulls.now) (seen c.args.span.now) c.loop-part.found.items _ _ c.args.parts.now c.loop-part.part-index _ _ c.in_ok-push.ensures.items c.loop-part-test.true refl refl c.in_ok-beside.ensures c.loop-part.invariant

pub returns : goal.returns
returns c = parts-end (joined_with c.args.side c.args.nulls.now) (seen c.args.span.now) _ c.args.parts.now c.loop-part.part-index _ c.loop-part-test.false c.loop-part.invariant
