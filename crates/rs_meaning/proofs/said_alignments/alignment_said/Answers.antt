use Rattle.rs_grammar.specs.declared.kind.TokenKind.TheVariants as kinds
use Rattle.rs_syntax.specs.Written.{list_lexemes, piece_lexemes}
use Rattle.rs_syntax.proofs.ToldLaws.{AreToldOf-append}
use Rattle.rs_meaning.proofs.said_alignments.alignment_said.Goals as goal

pub pieces_said-requires : goal.pieces_said-requires
pieces_said-requires c = (AreToldOf-append c.args.line.now (list_lexemes kinds.Comma piece_lexemes c.args.parts.now) _ c.requires.1.1.1.1).0
