use Rattle.rs_grammar.specs.declared.kind.TokenKind.TheVariants as kinds
use Rattle.rs_syntax.specs.Written.{list_lexemes, location_lexemes, value_lexemes}
use Rattle.rs_syntax.proofs.ToldLaws.{AreToldOf-append}
use Rattle.rs_meaning.proofs.said_events.event_said.Goals as goal

pub values_said-requires : goal.values_said-requires
values_said-requires c =
    let behind = (AreToldOf-append c.args.line.now (location_lexemes c.args.along) _ c.requires.1.1.1.1.1).1 in
    (AreToldOf-append c.args.line.now (list_lexemes kinds.Comma value_lexemes c.args.row.now) _ behind.1.1).0
