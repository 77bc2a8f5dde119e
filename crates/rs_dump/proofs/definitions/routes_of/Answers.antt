-- One after another.
use Rattle.std.proofs.Common.{◌++◌, ◌∙◌, List, ap, append-nil, map, refl, sym}
use Rattle.rs_catalog.specs.Names.{entries_by_bytes}
use Rattle.rs_dump.specs.Sections.{named_route, route_seen}
use Rattle.rs_catalog.specs.declared.entries.NamedRoute.{NamedRoute}
use Rattle.rs_dump.proofs.Listed.{listed_more}
use Rattle.rs_dump.proofs.definitions.routes_of.Goals as goal

pub loop-name-init : goal.loop-name-init
loop-name-init c =
    ap (λ (items : List NamedRoute). map route_seen items ++ map named_route (entries_by_bytes (λ x. x) c.into_iter-name-iterator.result)) c.new-routes.ensures.items
    ∙ ap (map named_route) (ap (entries_by_bytes (λ x. x)) c.into_iter-name-iterator.ensures.into_iter_gives ∙ c.routes-name-items.ensures)

pub loop-name-preserved : goal.loop-name-preserved
loop-name-preserved c =
    let one : NamedRoute = record { name = c.in-Some.name.now; route = c.in-Some.route.now } in
    ap (λ (items : List NamedRoute). map route_seen items ++ map named_route (entries_by_bytes (λ x. x) c.next.new.self)) c.in_ok-push.ensures.items
    ∙ listed_more route_seen named_route c.loop-name.routes.items one c.loop-name.name-iterator c.next.new.self c.in-Some.name.now c.in-Some.route.now c.in-Some.ensures.steps
    refl
    ∙ c.loop-name.invariant

pub returns : goal.returns
returns c =
    sym (append-nil (map route_seen c.loop-name.routes.items))
    ∙ ap (λ rest. map route_seen c.loop-name.routes.items ++ map named_route (entries_by_bytes (λ x. x) rest)) (sym c.in-None.ensures.steps.0)
    ∙ c.loop-name.invariant
