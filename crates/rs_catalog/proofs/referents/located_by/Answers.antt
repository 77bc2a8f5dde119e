use Rattle.std.proofs.Common.{ap, ◌∙◌}
use Rattle.rs_methods.specs.Position.{expression_of}
use Rattle.rs_facts.specs.Query.{RouteEnds}
use Rattle.rs_catalog.proofs.ReferentLaws.{located_own}
use Rattle.rs_catalog.proofs.referents.located_by.Goals as goal

pub returns : goal.returns
returns c = c.locate.ensures.place ∙ located_own c.as_route.result c.args.route.ends c.args.referents.now c.as_route.ensures.number (c.as_route.ensures.start ∙ ap (λ (e : RouteEnds). e.start) c.ends.ensures) (c.as_route.ensures.finish ∙ ap (λ (e : RouteEnds). e.finish) c.ends.ensures) c.stand_in_order.ensures (expression_of c.args.position.now)
