-- The answer of `all`.
use Rattle.std.proofs.Common.{rules, tests}
use Rattle.std.proofs.lemmas.Iterator.{YieldsList-from_slice, cases_from_all}
use Rattle.rs_machine.specs.Lawful.{IsRoute}
use Rattle.rs_catalog_pages.specs.Items.{RouteItem}
use Rattle.rs_catalog_pages.specs.Said.{said_route}
use Rattle.rs_catalog_pages.specs.declared.items.StoredRoute.{StoredRoute}
use Rattle.rs_catalog_meaning.specs.Meaning.{ends_of}
use Rattle.rs_catalog_meaning.proofs.Each.{answer_said}
use Rattle.rs_catalog_meaning.proofs.routes.is_each_route.Goals as goal

pub returns : goal.returns
returns c =
    let IsSo = λ (route : RouteItem). IsRoute route.name (ends_of route) in
    answer_said said_route IsSo c.args.routes.now c.all.result
    (cases_from_all _ _ _ (λ (x : StoredRoute). IsSo (said_route x)) (λ (x : StoredRoute). IsSo (said_route x) → ⊥) c.all.ensures.ran (YieldsList-from_slice c.args.routes.now cc)
    (λ x q k. search (rules, tests)) (λ x q k. search (rules, tests)))
