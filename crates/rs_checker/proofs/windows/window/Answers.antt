use Rattle.rs_checker.proofs.StepLaws.{window_made}
use Rattle.rs_checker.proofs.windows.window.Goals as goal

pub returns-clause-ok : goal.returns-clause-ok
returns-clause-ok c = window_made c.args.operand c.in_ok-located.located _ c.in_ok-located.ensures.ok
