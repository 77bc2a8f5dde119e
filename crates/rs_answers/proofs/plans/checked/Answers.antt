use Rattle.rs_syntax.specs.QueryView.{query_tree}
use Rattle.rs_catalog.specs.Referents.{referents_on}
use Rattle.rs_answers.proofs.CanPlan.{can-be-planned}
use Rattle.rs_answers.proofs.plans.checked.Goals as goal

pub returns-clause-can : goal.returns-clause-can
returns-clause-can c = can-be-planned c.args.catalog.now (referents_on c.args.referents.now) (query_tree c.args.query.now) c.check.result c.check.ensures.ok c.check.ensures.numbers
