use Rattle.std.proofs.Common.{◌+◌, ◌*◌, length}
use Rattle.rs_descent.proofs.queries.+reading.Given as goal

-- The tokens that are left, and on the same tokens a rank of each function.
abbrev pub decreases-query : goal.decreases-query
decreases-query l = 3 * length l.tokens.now

abbrev pub decreases-boxed_query : goal.decreases-boxed_query
decreases-boxed_query l = 3 * length l.tokens.now + 1

abbrev pub decreases-operand_query : goal.decreases-operand_query
decreases-operand_query l = 3 * length l.tokens.now + 1

abbrev pub decreases-where_query : goal.decreases-where_query
decreases-where_query l = 3 * length l.tokens.now + 2

abbrev pub decreases-dissolve_query : goal.decreases-dissolve_query
decreases-dissolve_query l = 3 * length l.tokens.now + 2

abbrev pub decreases-rename_query : goal.decreases-rename_query
decreases-rename_query l = 3 * length l.tokens.now + 2

abbrev pub decreases-pair_query : goal.decreases-pair_query
decreases-pair_query l = 3 * length l.tokens.now + 2

abbrev pub decreases-window_query : goal.decreases-window_query
decreases-window_query l = 3 * length l.tokens.now + 2

abbrev pub decreases-transform_query : goal.decreases-transform_query
decreases-transform_query l = 3 * length l.tokens.now + 2

abbrev pub decreases-gaps_query : goal.decreases-gaps_query
decreases-gaps_query l = 3 * length l.tokens.now + 2
