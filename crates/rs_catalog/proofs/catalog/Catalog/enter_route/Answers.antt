use Rattle.std.proofs.Common.{◌≡◌, ◌<◌, ◌≤◌, false, sym, subst}
use Rattle.std.specs.FinMap as names
use Rattle.rs_facts.specs.Fact.{Names}
use Rattle.rs_facts.specs.Query.{RouteEnds}
use Rattle.rs_machine.specs.State.{has}
use Rattle.rs_measure.specs.declared.measure.TheConstants.{GREATEST_MEASURE}
use Rattle.rs_catalog.specs.Definitions.{RouteItem, Definitions, IsFree, AreDefinitions}
use Rattle.rs_catalog.proofs.DefinitionLaws.{are_definitions-route, tried}
use Rattle.rs_catalog.proofs.catalog.Catalog.enter_route.Goals as goal

pub invariant_of-self : goal.invariant_of-self
invariant_of-self c =
    let new : has c.self.inside.routes c.args.name.bytes ≡ false = subst (λ (d : Definitions). has d.routes c.args.name.bytes ≡ false) (sym c.self.view_is) c.requires.new in
    let free : IsFree (λ (item : RouteItem). item.number) c.self.inside.routes c.args.route.number =
    subst (λ (d : Definitions). IsFree (λ (item : RouteItem). item.number) d.routes c.args.route.number) (sym c.self.view_is) c.requires.free in
    let ends = subst (λ (e : RouteEnds). (e.start < e.finish) × (e.finish ≤ GREATEST_MEASURE)) c.ends.ensures (c.stand.ensures.ordered, c.stand.ensures.measured) in
    tried (λ (routes : Names RouteItem). AreDefinitions (record { routes = routes; tables = c.self.inside.tables; indexes = c.self.inside.indexes; views = c.self.inside.views; alignments = c.self.inside.alignments }))
    c.define.result c.self.inside.routes (names.insert c.self.inside.routes c.args.name.bytes c.args.route) c.define.new.self c.self.invariant
    (are_definitions-route _ c.args.name.bytes c.args.route c.self.invariant new free (c.requires.below, ends.0, ends.1)) c.define.ensures.ok c.define.ensures.err
