use Rattle.std.proofs.lemmas.Result.{IfOk-weaker}
use Rattle.rs_answers.proofs.VisitedRoutes.{visited-all, visited-one}
use Rattle.rs_answers.proofs.routes.visited_routes.Goals as goal

pub returns-in-None-clause-visited : goal.returns-in-None-clause-visited
returns-in-None-clause-visited c = IfOk-weaker c.named_routes.result _ _ (λ routes all. visited-all c.args.catalog.now c.args.plan.now _ all) c.named_routes.ensures

pub returns-in_ok-vec-in-Some-clause-visited : goal.returns-in_ok-vec-in-Some-clause-visited
returns-in_ok-vec-in-Some-clause-visited c =
    visited-one c.args.catalog.now c.stand.ensures c.args.plan.now c.in-Some.named c.in-Some.ensures.there c.in-Some.ensures.others
    c.in_ok-vec-in-Some.field-0.items c.in_ok-vec-in-Some.ensures.items
