-- One part more.
use Rattle.std.proofs.Common.{◌∙◌, ◌++◌, [], ◌∷◌, map, min, cond, sym, ap}
use Rattle.std.proofs.lemmas.Bool.{lt-ltb}
use Rattle.std.proofs.lemmas.List.{map-append}
use Rattle.rs_facts.specs.Runs.{stretch}
use Rattle.rs_facts.specs.Spans.{seen}
use Rattle.rs_table_changes.proofs.leaving.push_front.Goals as goal

pub returns-in_ok-push : goal.returns-in_ok-push
returns-in_ok-push c =
    let span = c.args.span.now in
    ap (map seen) c.in_ok-push.ensures.items ∙ map-append seen c.args.left.now.items _
    ∙ ap (λ row. map seen c.args.left.now.items ++ stretch span.lo c.min.result row ∷ []) c.in_ok-tuple.ensures
    ∙ ap (λ hi. map seen c.args.left.now.items ++ stretch span.lo hi (seen span).row ∷ []) c.min.ensures
    ∙ ap (λ t. map seen c.args.left.now.items ++ cond t (stretch span.lo (min span.hi c.args.lo) (seen span).row ∷ []) []) (sym (lt-ltb span.lo c.args.lo c.if-span-lo.true))
