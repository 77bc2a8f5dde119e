use Rattle.std.proofs.Common.{ap, ◌∙◌}
use Rattle.std.specs.Prelude.{map}
use Rattle.rs_grammar.specs.declared.kind.TokenKind.TheVariants as kinds
use Rattle.rs_lexer.specs.Lexis.{token_text}
use Rattle.rs_syntax.specs.Tree.{total}
use Rattle.rs_syntax.specs.QueryView.{query_tree}
use Rattle.rs_syntax.specs.View.{summed_tree}
use Rattle.rs_syntax.specs.Written.{list_lexemes, name_lexemes, bracketed_names_lexemes, query_lexemes, summed_lexemes}
use Rattle.rs_syntax.specs.WrittenView.{query_syntax}
use Rattle.rs_syntax.proofs.ToldLaws.{AreToldOf-append}
use Rattle.rs_meaning.proofs.said_totals.total_said.Goals as goal

pub query_said-requires : goal.query_said-requires
query_said-requires c = (AreToldOf-append c.args.line.now (query_lexemes (query_syntax c.args.query.now)) _ c.requires.1).0

pub names_said-requires : goal.names_said-requires
names_said-requires c =
    let behind = (AreToldOf-append c.args.line.now (query_lexemes (query_syntax c.args.query.now)) _ c.requires.1).1 in
    let columns = (AreToldOf-append c.args.line.now (bracketed_names_lexemes c.args.columns.now) (summed_lexemes c.args.column) behind.1).0 in
    (AreToldOf-append c.args.line.now (list_lexemes kinds.Comma name_lexemes c.args.columns.now) _ columns.1).0

pub summed_said-requires : goal.summed_said-requires
summed_said-requires c =
    let behind = (AreToldOf-append c.args.line.now (query_lexemes (query_syntax c.args.query.now)) _ c.requires.1).1 in
    (AreToldOf-append c.args.line.now (bracketed_names_lexemes c.args.columns.now) (summed_lexemes c.args.column) behind.1).1

pub returns-clause-ok : goal.returns-clause-ok
returns-clause-ok c =
    let query = query_tree c.in_ok-query_said.field-0 in
    let names = map (token_text c.args.line.now) c.args.columns.now in
    let same = ap (λ by. total query by (summed_tree c.summed_said.result)) c.in_ok-names_said.ensures.ok ∙ ap (total query names) c.summed_said.ensures in
    (query, c.in_ok-query_said.ensures.ok, same)
