use Rattle.std.proofs.Common.{map, refl, ap, ◌∙◌}
use Rattle.rs_facts.specs.Spans.{seen}
use Rattle.rs_sweep.specs.Parts.{unchanged}
use Rattle.rs_sweep.proofs.CutLaws.{parts-pushed, parts-end, parts-none, parts-last}
use Rattle.rs_sweep.proofs.difference.cut.Goals as goal

pub returns-in_default : goal.returns-in_default
returns-in_default c = parts-none unchanged (seen c.args.span) (map seen c.args.kept.now.items) c.args.parts.now c.in_default.ensures.cases

pub loop-part-preserved : goal.loop-part-preserved
loop-part-preserved c = parts-pushed unchanged (seen c.args.span) c.loop-part.kept.items _ _ c.in-Some.others.now c.loop-part.part-index _ _ c.in_ok-push.ensures.items c.loop-part-test.true refl refl
    c.in_ok-copied.ensures c.loop-part.invariant

pub returns : goal.returns
returns c =
    ap (map seen) c.in_ok-push-2.ensures.items
    ∙ parts-last unchanged (seen c.args.span) c.loop-part.kept.items _ (map seen c.args.kept.now.items) c.args.parts.now c.in-Some.others.now c.in-Some.last.now c.in-Some.ensures.cases.0 refl
    (parts-end unchanged (seen c.args.span) _ c.in-Some.others.now c.loop-part.part-index _ c.loop-part-test.false c.loop-part.invariant)
