use Rattle.std.proofs.Common.{length}
use Rattle.rs_grammar.specs.declared.kind.TokenKind.TheVariants as kinds
use Rattle.rs_grammar.specs.Grammar.{rules, pieces}
use Rattle.rs_syntax.specs.Written.{piece_lexemes}
use Rattle.rs_descent.proofs.Steps.{IsListSoFar}
use Rattle.rs_descent.proofs.alignments.pieces.Given as goal

abbrev pub invariant-loop-pieces : goal.invariant-loop-pieces
invariant-loop-pieces l = IsListSoFar kinds.Comma (rules pieces) piece_lexemes l.tokens l.pieces.items l.rest

abbrev pub decreases-loop-pieces : goal.decreases-loop-pieces
decreases-loop-pieces l = length l.rest
