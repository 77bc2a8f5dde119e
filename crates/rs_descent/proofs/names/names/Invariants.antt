use Rattle.std.proofs.Common.{length}
use Rattle.rs_grammar.specs.declared.kind.TokenKind.TheVariants as kinds
use Rattle.rs_grammar.specs.Grammar.{rules, names}
use Rattle.rs_syntax.specs.Written.{name_lexemes}
use Rattle.rs_descent.proofs.Steps.{IsListSoFar}
use Rattle.rs_descent.proofs.names.names.Given as goal

abbrev pub invariant-loop-names : goal.invariant-loop-names
invariant-loop-names l = IsListSoFar kinds.Comma (rules names) name_lexemes l.tokens l.names.items l.rest

abbrev pub decreases-loop-names : goal.decreases-loop-names
decreases-loop-names l = length l.rest
