use Rattle.std.proofs.Common.{◌++◌, map, sym, ap, ◌∙◌, append-nil}
use Rattle.rs_catalog.specs.Names.{entries_by_bytes}
use Rattle.rs_answers.specs.Routes.{entry_of}
use Rattle.rs_catalog.specs.declared.entries.NamedRoute.{NamedRoute}
use Rattle.rs_answers.proofs.NamedRoutes.{routes-more}
use Rattle.rs_answers.proofs.routes.named_routes.Goals as goal

pub loop-name-init : goal.loop-name-init
loop-name-init c =
    ap (λ items. map entry_of items ++ entries_by_bytes (λ route. route) c.into_iter-name-iterator.result) c.in_ok-routes.ensures.items
    ∙ ap (entries_by_bytes (λ route. route)) c.into_iter-name-iterator.ensures.into_iter_gives ∙ c.routes-name-items.ensures

pub loop-name-preserved : goal.loop-name-preserved
loop-name-preserved c =
    let one : NamedRoute = record { name = c.in-Some.name.now; route = c.in-Some.route.now } in
    ap (λ items. map entry_of items ++ entries_by_bytes (λ route. route) c.next.new.self) c.in_ok-push.ensures.items
    ∙ routes-more c.loop-name.routes.items one c.loop-name.name-iterator c.next.new.self c.in-Some.ensures.steps
    ∙ c.loop-name.invariant

pub returns : goal.returns
returns c =
    sym (append-nil _)
    ∙ ap (λ rest. map entry_of c.loop-name.routes.items ++ entries_by_bytes (λ route. route) rest) (sym c.in-None.ensures.steps.0)
    ∙ c.loop-name.invariant
