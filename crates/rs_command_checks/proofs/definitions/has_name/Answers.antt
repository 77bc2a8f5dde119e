use Rattle.std.proofs.Common.{sym, ◌∙◌}
use Rattle.rs_command_checks.proofs.ColumnNames.{first_has, none_has}
use Rattle.rs_command_checks.proofs.definitions.has_name.Goals as goal

pub returns-then-eq : goal.returns-then-eq
returns-then-eq c = sym (first_has c.args.name.now.bytes _ c.args.columns.now c.loop-column.column-index c.column-item.result _ c.loop-column.invariant c.loop-column-test.true c.column-item.is (sym c.eq.ensures ∙ c.if-eq.true))

pub loop-column-preserved : goal.loop-column-preserved
loop-column-preserved c = first_has c.args.name.now.bytes _ c.args.columns.now c.loop-column.column-index c.column-item.result _ c.loop-column.invariant c.loop-column-test.true c.column-item.is (sym c.eq.ensures ∙ c.if-eq.false)

pub returns : goal.returns
returns c = sym (c.loop-column.invariant ∙ none_has c.args.name.now.bytes c.args.columns.now c.loop-column.column-index c.loop-column-test.false)
