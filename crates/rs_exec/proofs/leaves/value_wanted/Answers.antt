use Rattle.rs_exec.proofs.RowLaws.{meets-at}
use Rattle.rs_exec.proofs.leaves.value_wanted.Goals as goal

pub returns-in-Some : goal.returns-in-Some
returns-in-Some c = λ row met. c.in-Some.ensures row (meets-at c.args.conditions.now c.loop-condition.condition-index c.condition-item.result row c.loop-condition-test.true c.condition-item.is met)
