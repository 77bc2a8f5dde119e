use Rattle.std.proofs.Common.{sym, ◌∙◌}
use Rattle.rs_command_checks.proofs.ColumnNames.{first_twice, none_twice}
use Rattle.rs_command_checks.proofs.definitions.has_name_twice.Goals as goal

pub returns-then-has_name : goal.returns-then-has_name
returns-then-has_name c = sym (first_twice _ c.args.columns.now c.loop-i.i c.index-columns-i.result _ c.loop-i.invariant c.loop-i-test.true c.index-columns-i.is (sym c.has_name.ensures ∙ c.if-has_name.true))

pub loop-i-preserved : goal.loop-i-preserved
loop-i-preserved c = first_twice _ c.args.columns.now c.loop-i.i c.index-columns-i.result _ c.loop-i.invariant c.loop-i-test.true c.index-columns-i.is (sym c.has_name.ensures ∙ c.if-has_name.false)

pub returns : goal.returns
returns c = sym (c.loop-i.invariant ∙ none_twice c.args.columns.now c.loop-i.i c.loop-i-test.false)
