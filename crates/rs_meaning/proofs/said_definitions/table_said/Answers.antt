use Rattle.rs_grammar.specs.declared.kind.TokenKind.TheVariants as kinds
use Rattle.rs_syntax.specs.Written.{list_lexemes, column_lexemes}
use Rattle.rs_syntax.proofs.ToldLaws.{AreToldOf-append}
use Rattle.rs_meaning.proofs.said_definitions.table_said.Goals as goal

pub columns_said-requires : goal.columns_said-requires
columns_said-requires c = (AreToldOf-append c.args.line.now (list_lexemes kinds.Comma column_lexemes c.args.definitions.now) _ c.requires.1.1.1.1.1).0
