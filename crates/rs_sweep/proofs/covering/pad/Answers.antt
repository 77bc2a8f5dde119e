use Rattle.std.proofs.Common.{◌∷◌, [], ◌++◌, map, take, sym, ap, ◌∙◌, subst}
use Rattle.std.proofs.lemmas.List.{take_more, take_all}
use Rattle.rs_facts.specs.Spans.{seen}
use Rattle.rs_coalesce.specs.Lent.{seen_lent}
use Rattle.rs_sweep.specs.Inner.{joined_with}
use Rattle.rs_sweep.specs.Parts.{IsCut, changed_part}
use Rattle.rs_sweep.specs.Taken.{taken_of}
use Rattle.rs_sweep.specs.declared.taken.Rows.TheVariants.{All}
use Rattle.rs_sweep.proofs.CutLaws.{cut-none, cut-next}
use Rattle.rs_sweep.proofs.covering.pad.Goals as goal

pub loop-span-init : goal.loop-span-init
loop-span-init c = cut-none (joined_with c.args.side c.args.nulls.now) All (map (taken_of All) c.args.taken.now) (map seen c.args.found.now.items)

pub loop-span-preserved : goal.loop-span-preserved
loop-span-preserved c = cut-next seen_lent (joined_with c.args.side c.args.nulls.now) All (map (taken_of All) c.args.taken.now) (take c.loop-span.span-index c.args.spans.now) (map seen c.args.found.now.items) _ _ c.span-item.result _ c.parts_outside.new.parts.items
    (take_more c.args.spans.now c.loop-span.span-index c.span-item.result c.loop-span-test.true ∙ ap (λ s. take c.loop-span.span-index c.args.spans.now ++ s ∷ []) (sym c.span-item.is))
    c.loop-span.invariant c.in_ok-parts_outside.ensures.free c.in_ok-parts_outside.ensures.inside
    (c.in_ok-add_padded.ensures ∙ ap (λ zs. map seen c.loop-span.found.items ++ map (changed_part (joined_with c.args.side c.args.nulls.now) (seen_lent c.span-item.result)) zs) c.as_slice.ensures.value)

pub returns : goal.returns
returns c = subst (λ zs. IsCut (joined_with c.args.side c.args.nulls.now) All (map (taken_of All) c.args.taken.now) (map seen_lent zs) (map seen c.args.found.now.items) (map seen c.loop-span.found.items)) (take_all c.loop-span.span-index c.args.spans.now c.loop-span-test.false) c.loop-span.invariant
