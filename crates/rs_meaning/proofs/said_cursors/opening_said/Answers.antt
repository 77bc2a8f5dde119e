use Rattle.rs_syntax.specs.Written.{query_lexemes}
use Rattle.rs_syntax.specs.WrittenView.{query_syntax}
use Rattle.rs_syntax.proofs.ToldLaws.{AreToldOf-append}
use Rattle.rs_meaning.proofs.said_cursors.opening_said.Goals as goal

pub query_said-requires : goal.query_said-requires
query_said-requires c = (AreToldOf-append c.args.line.now (query_lexemes (query_syntax c.args.query.now)) _ c.requires.1.1.1).0
