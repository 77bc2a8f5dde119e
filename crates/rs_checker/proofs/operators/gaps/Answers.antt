use Rattle.std.proofs.Common.{sym, ◌∙◌}
use Rattle.rs_checker.proofs.StepLaws.{gaps_made}
use Rattle.rs_checker.proofs.operators.gaps.Goals as goal

pub returns-clause-ok : goal.returns-clause-ok
returns-clause-ok c = gaps_made c.args.operand c.new.result c.new.ensures (sym c.are_lines.ensures ∙ c.in_ok-are_lines.was)
