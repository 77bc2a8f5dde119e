-- One part more.
use Rattle.std.proofs.Common.{◌∙◌, ◌++◌, [], ◌∷◌, map, max, cond, sym, ap}
use Rattle.std.proofs.lemmas.Bool.{lt-ltb}
use Rattle.std.proofs.lemmas.List.{map-append}
use Rattle.rs_facts.specs.Runs.{stretch}
use Rattle.rs_facts.specs.Spans.{seen}
use Rattle.rs_table_changes.proofs.leaving.push_back.Goals as goal

pub returns-in_ok-push : goal.returns-in_ok-push
returns-in_ok-push c =
    let span = c.args.span.now in
    ap (map seen) c.in_ok-push.ensures.items ∙ map-append seen c.args.left.now.items _
    ∙ ap (λ row. map seen c.args.left.now.items ++ stretch c.max.result span.hi row ∷ []) c.in_ok-tuple.ensures
    ∙ ap (λ lo. map seen c.args.left.now.items ++ stretch lo span.hi (seen span).row ∷ []) c.max.ensures
    ∙ ap (λ t. map seen c.args.left.now.items ++ cond t (stretch (max span.lo c.args.hi) span.hi (seen span).row ∷ []) []) (sym (lt-ltb c.args.hi span.hi c.if-hi-span.true))
