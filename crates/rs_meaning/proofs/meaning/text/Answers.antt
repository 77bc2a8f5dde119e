use Rattle.rs_lexer.proofs.TokenLaws.{start_boundary, end_boundary}
use Rattle.rs_meaning.proofs.meaning.text.Goals as goal

pub range-requires-clause-start_boundary : goal.range-requires-clause-start_boundary
range-requires-clause-start_boundary c = λ _. start_boundary c.args.line.now c.args.token c.requires

pub range-requires-clause-end_boundary : goal.range-requires-clause-end_boundary
range-requires-clause-end_boundary c = end_boundary c.args.line.now c.args.token c.requires c.utf8.line
