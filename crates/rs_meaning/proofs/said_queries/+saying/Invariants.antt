use Rattle.std.proofs.Common.{◌+◌, ◌*◌, length}
use Rattle.rs_syntax.specs.Written.{query_lexemes}
use Rattle.rs_syntax.specs.WrittenView.{query_syntax}
use Rattle.rs_meaning.proofs.said_queries.+saying.Given as goal

-- The tokens that are written, and on the same tokens a rank of each function.
abbrev pub decreases-query_said : goal.decreases-query_said
decreases-query_said l = 2 * length (query_lexemes (query_syntax l.written.now))

abbrev pub decreases-operand_query_said : goal.decreases-operand_query_said
decreases-operand_query_said l = 2 * length (query_lexemes (query_syntax l.written.now)) + 1
