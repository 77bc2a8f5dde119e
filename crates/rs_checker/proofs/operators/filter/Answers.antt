use Rattle.rs_syntax.specs.QueryView.{condition_tree}
use Rattle.rs_checker.proofs.StepLaws.{filter_made}
use Rattle.rs_checker.proofs.operators.filter.Goals as goal

pub returns-clause-ok : goal.returns-clause-ok
returns-clause-ok c = filter_made c.args.operand c.in_ok-test.test (condition_tree c.args.condition.now) c.in_ok-test.ensures.ok
