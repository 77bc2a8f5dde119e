use Rattle.rs_grammar.specs.declared.kind.TokenKind.TheVariants as kinds
use Rattle.rs_descent.proofs.Steps.{RunsTo-need}
use Rattle.rs_descent.proofs.names.column_name.Goals as goal

pub returns-clause-runs : goal.returns-clause-runs
returns-clause-runs c = RunsTo-need kinds.Name c.args.tokens.now c.need_text.result c.need_text.ensures.found
