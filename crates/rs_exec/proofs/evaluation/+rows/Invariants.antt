-- An operand is smaller than what it is an operand of.
use Rattle.std.proofs.Common.{◌+◌, ◌*◌}
use Rattle.rs_exec.specs.Operand.{operand_size, operands_size}
use Rattle.rs_exec.proofs.evaluation.+rows.Given as goal

abbrev pub decreases-rows_on : goal.decreases-rows_on
decreases-rows_on g l = 8 * operand_size l.operand

abbrev pub decreases-changed_rows : goal.decreases-changed_rows
decreases-changed_rows g l = 8 * operand_size l.operand + 1

abbrev pub decreases-paired_rows : goal.decreases-paired_rows
decreases-paired_rows g l = 8 * (operand_size l.left + operand_size l.right) + 5

abbrev pub decreases-overlaid_rows : goal.decreases-overlaid_rows
decreases-overlaid_rows g l = 8 * operands_size l.operands

abbrev pub decreases-rows_together : goal.decreases-rows_together
decreases-rows_together g l = 8 * (operand_size l.first + operands_size l.others) + 7

abbrev pub decreases-overlaid_with : goal.decreases-overlaid_with
decreases-overlaid_with g l = 8 * operands_size l.operands

abbrev pub decreases-laid_with : goal.decreases-laid_with
decreases-laid_with g l = 8 * operand_size l.next + 4

abbrev pub decreases-seen_rows : goal.decreases-seen_rows
decreases-seen_rows g l = 8 * operand_size l.operand + 1

abbrev pub decreases-carried_rows : goal.decreases-carried_rows
decreases-carried_rows g l = 8 * operand_size l.operand + 1

abbrev pub decreases-gaps_rows : goal.decreases-gaps_rows
decreases-gaps_rows g l = 8 * operand_size l.operand + 1
