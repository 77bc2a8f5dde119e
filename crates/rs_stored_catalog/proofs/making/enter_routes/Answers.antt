use Rattle.std.proofs.Common.{◌<◌, ◌≤◌, length, map, string_bytes, refl, sym, ap, subst, ◌∙◌, arith}
use Rattle.std.proofs.lemmas.List.{length-map}
use Rattle.rs_catalog.specs.Definitions as catalog
use Rattle.rs_catalog.specs.Definitions.{Definitions, IsColumnOf, IsFree}
use Rattle.rs_catalog_meaning.specs.Meaning.{ends_of}
use Rattle.rs_catalog_pages.specs.Items.{RouteItem}
use Rattle.rs_catalog_pages.specs.Said.{said_route}
use Rattle.rs_facts.specs.Fact.{Name, Names}
use Rattle.rs_file_meaning.specs.States.{named_route}
use Rattle.rs_grammar.specs.declared.kind.TheConstants.{NAME_BYTES}
use Rattle.rs_machine.specs.Lawful.{IsRoute}
use Rattle.rs_machine.specs.State.{has}
use Rattle.rs_stored_catalog.proofs.Entering.{each_said, next-free, next-new, nothing, said_at, so_far, step, whole}
use Rattle.rs_catalog.specs.Changes.{with_route}
use Rattle.rs_machine.specs.declared.limits.TheConstants.{ROUTES}
use Rattle.rs_stored_catalog.proofs.making.enter_routes.Goals as goal

abbrev name : RouteItem → Name
name x = x.name

pub loop-route-init : goal.loop-route-init
loop-route-init c = ap (λ (items : Names (catalog.RouteItem)). record c.args.catalog.now { routes = items }) (c.requires.none ∙ sym (nothing name (λ (x : RouteItem). (named_route x).1) (map said_route c.args.routes.now)))

pub name_of-requires : goal.name_of-requires
name_of-requires c =
    let is = each_said said_route (λ (r : RouteItem). IsRoute r.name (ends_of r)) c.args.routes.now c.loop-route.route-index c.route-item.result c.loop-route-test.true c.route-item.is c.requires.meant.each in
    subst (λ text. length text ≤ NAME_BYTES) (sym (c.as_str.ensures.value ∙ ap string_bytes c.deref.ensures)) is.named.short

pub route_entry-requires : goal.route_entry-requires
route_entry-requires c =
    each_said said_route (λ (r : RouteItem). IsRoute r.name (ends_of r)) c.args.routes.now c.loop-route.route-index c.route-item.result c.loop-route-test.true c.route-item.is c.requires.meant.each

abbrev value : RouteItem → catalog.RouteItem
value x = (named_route x).1

pub enter_route-requires-clause-new : goal.enter_route-requires-clause-new
enter_route-requires-clause-new c =
    let items = map said_route c.args.routes.now in
    let i = c.loop-route.route-index in
    let at = said_at said_route c.args.routes.now i c.route-item.result c.loop-route-test.true c.route-item.is in
    ap (λ (d : Definitions). has d.routes c.name_of.result.bytes) c.loop-route.invariant
    ∙ ap (has (so_far name value items i)) (c.name_of.ensures ∙ c.as_str.ensures.value ∙ ap string_bytes c.deref.ensures)
    ∙ next-new name value items i (said_route c.route-item.result) c.requires.meant.in_order at.0 at.1

pub enter_route-requires-clause-free : goal.enter_route-requires-clause-free
enter_route-requires-clause-free c =
    let items = map said_route c.args.routes.now in
    let i = c.loop-route.route-index in
    let at = said_at said_route c.args.routes.now i c.route-item.result c.loop-route-test.true c.route-item.is in
    let free = next-free name value items i (said_route c.route-item.result) c.requires.meant.in_order at.0 at.1 (λ (x : RouteItem). x.number) (λ (item : catalog.RouteItem). item.number) (λ x. refl)
    c.requires.meant.numbers_once in
    subst (λ (d : Definitions). IsFree (λ (item : catalog.RouteItem). item.number) d.routes c.route_entry.result.number) (sym c.loop-route.invariant)
    (subst (λ (e : catalog.RouteItem). IsFree (λ (item : catalog.RouteItem). item.number) (so_far name value items i) e.number) (sym c.route_entry.ensures) free)

pub enter_route-requires-clause-below : goal.enter_route-requires-clause-below
enter_route-requires-clause-below c =
    subst (λ (e : catalog.RouteItem). e.number < ROUTES) (sym c.route_entry.ensures)
    (each_said said_route (λ (r : RouteItem). r.number < ROUTES) c.args.routes.now c.loop-route.route-index c.route-item.result c.loop-route-test.true c.route-item.is c.requires.meant.numbers_below)

pub loop-route-preserved : goal.loop-route-preserved
loop-route-preserved c =
    let at = said_at said_route c.args.routes.now c.loop-route.route-index c.route-item.result c.loop-route-test.true c.route-item.is in
    c.in_ok-enter_route.ensures.ok
    ∙ ap (λ (d : Definitions). with_route d c.name_of.result.bytes c.route_entry.result) c.loop-route.invariant
    ∙ ap (λ (items : Names (catalog.RouteItem)). record c.args.catalog.now { routes = items })
    (step name (λ (x : RouteItem). (named_route x).1) (map said_route c.args.routes.now) c.loop-route.route-index (said_route c.route-item.result) c.requires.meant.in_order at.0 at.1 c.name_of.result.bytes c.route_entry.result
    (c.name_of.ensures ∙ c.as_str.ensures.value ∙ ap string_bytes c.deref.ensures) c.route_entry.ensures)

pub returns : goal.returns
returns c =
    c.loop-route.invariant
    ∙ ap (λ (items : Names (catalog.RouteItem)). record c.args.catalog.now { routes = items })
    (whole name (λ (x : RouteItem). (named_route x).1) (map said_route c.args.routes.now) c.loop-route.route-index (omega (arith, c.loop-route-test.false, length-map c.args.routes.now said_route)))
