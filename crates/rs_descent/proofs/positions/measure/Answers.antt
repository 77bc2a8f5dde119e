use Rattle.rs_grammar.specs.declared.kind.TokenKind.TheVariants as kinds
use Rattle.rs_grammar.specs.Grammar.{done, need}
use Rattle.rs_descent.specs.Reading.{is_done}
use Rattle.rs_descent.proofs.Steps.{takes_as, RunsTo-skips, RunsTo-need}
use Rattle.rs_descent.proofs.positions.measure.Goals as goal

pub returns-in-Some-clause-runs : goal.returns-in-Some-clause-runs
returns-in-Some-clause-runs c = takes_as c.in-Some.ensures.found is_done

pub returns-in-None-clause-runs : goal.returns-in-None-clause-runs
returns-in-None-clause-runs c = RunsTo-skips kinds.Whole done (need kinds.Decimal done) c.args.tokens.now c.need_text.result c.in-None.ensures.found (RunsTo-need kinds.Decimal c.args.tokens.now c.need_text.result c.need_text.ensures.found)
