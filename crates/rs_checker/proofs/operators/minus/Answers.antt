use Rattle.std.proofs.Common.{sym, ◌∙◌}
use Rattle.rs_checker.proofs.StepLaws.{minus_made}
use Rattle.rs_checker.proofs.operators.minus.Goals as goal

pub returns-clause-ok : goal.returns-clause-ok
returns-clause-ok c = minus_made c.args.left c.args.right (sym c.alike.ensures ∙ c.in_ok-alike.was)
