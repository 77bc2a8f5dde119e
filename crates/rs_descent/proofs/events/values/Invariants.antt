use Rattle.std.proofs.Common.{length}
use Rattle.rs_grammar.specs.declared.kind.TokenKind.TheVariants as kinds
use Rattle.rs_grammar.specs.Grammar.{rules, values}
use Rattle.rs_syntax.specs.Written.{value_lexemes}
use Rattle.rs_descent.proofs.Steps.{IsListSoFar}
use Rattle.rs_descent.proofs.events.values.Given as goal

abbrev pub invariant-loop-values : goal.invariant-loop-values
invariant-loop-values l = IsListSoFar kinds.Comma (rules values) value_lexemes l.tokens l.values.items l.rest

abbrev pub decreases-loop-values : goal.decreases-loop-values
decreases-loop-values l = length l.rest
