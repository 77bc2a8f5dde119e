use Rattle.std.proofs.Common.{length}
use Rattle.rs_grammar.specs.declared.kind.TokenKind.TheVariants as kinds
use Rattle.rs_grammar.specs.Grammar.{rules, columns}
use Rattle.rs_syntax.specs.Written.{column_lexemes}
use Rattle.rs_descent.proofs.Steps.{IsListSoFar}
use Rattle.rs_descent.proofs.columns.columns.Given as goal

abbrev pub invariant-loop-columns : goal.invariant-loop-columns
invariant-loop-columns l = IsListSoFar kinds.Comma (rules columns) column_lexemes l.tokens l.columns.items l.rest

abbrev pub decreases-loop-columns : goal.decreases-loop-columns
decreases-loop-columns l = length l.rest
