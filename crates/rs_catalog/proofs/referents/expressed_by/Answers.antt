use Rattle.std.proofs.Common.{ap, ◌∙◌}
use Rattle.std.proofs.lemmas.Result.{IfOk-weaker}
use Rattle.rs_methods.specs.Position.{expression_text}
use Rattle.rs_facts.specs.Query.{RouteEnds}
use Rattle.rs_catalog.proofs.ReferentLaws.{expressed_own}
use Rattle.rs_catalog.proofs.referents.expressed_by.Goals as goal

pub returns : goal.returns
returns c = IfOk-weaker c.express.result _ _ (λ text is. is ∙ ap expression_text (expressed_own c.as_route.result c.args.route.ends c.args.referents.now c.as_route.ensures.number (c.as_route.ensures.start ∙ ap (λ (e : RouteEnds). e.start) c.ends.ensures) (c.as_route.ensures.finish ∙ ap (λ (e : RouteEnds). e.finish) c.ends.ensures) c.stand_in_order.ensures c.args.method c.args.k)) c.express.ensures.text
