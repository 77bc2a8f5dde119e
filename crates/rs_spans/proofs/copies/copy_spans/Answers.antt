-- Each copy is pushed after the others, and its row is the same.
use Rattle.std.proofs.Common.{map, take, [], ◌∷◌, ◌++◌, ap, sym, ◌∙◌}
use Rattle.std.proofs.lemmas.List.{map_push, map_more}
use Rattle.rs_facts.specs.Runs.{stretch}
use Rattle.rs_facts.specs.Spans.{seen}
use Rattle.rs_spans.proofs.copies.copy_spans.Goals as goal

pub loop-span-preserved : goal.loop-span-preserved
loop-span-preserved c =
    let old = c.span-item.result in
    let tuple = c.in_ok-copied.field-0 in
    ap (map seen) c.in_ok-push.ensures.items
    ∙ map_push seen c.loop-span.copies.items (record { lo = old.lo; hi = old.hi; tuple = tuple })
    ∙ ap (λ front. front ++ stretch old.lo old.hi tuple ∷ []) c.loop-span.invariant
    ∙ ap (λ row. map seen (take c.loop-span.span-index c.args.spans.now) ++ stretch old.lo old.hi row ∷ []) c.in_ok-copied.ensures
    ∙ ap (λ span. map seen (take c.loop-span.span-index c.args.spans.now) ++ seen span ∷ []) c.span-item.is
    ∙ sym (map_more seen c.args.spans.now c.loop-span.span-index old c.loop-span-test.true)
