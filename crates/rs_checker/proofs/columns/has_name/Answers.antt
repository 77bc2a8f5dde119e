use Rattle.std.proofs.Common.{refl}
use Rattle.rs_facts.specs.Insert.{same_name}
use Rattle.rs_checker.proofs.ColumnLaws.{has_name_in}
use Rattle.rs_checker.proofs.Walks.{or_found, or_other, at_end}
use Rattle.rs_checker.proofs.columns.has_name.Goals as goal

pub returns-then-same_name : goal.returns-then-same_name
returns-then-same_name c = or_found (has_name_in c.args.name.now.bytes) (λ x xs. same_name c.args.name.now.bytes x.name.bytes) (λ x xs. refl) _ c.args.columns.now c.loop-column.column-index c.column-item.result c.same_name.result c.loop-column.invariant c.loop-column-test.true c.column-item.is c.same_name.ensures c.if-same_name.true

pub loop-column-preserved : goal.loop-column-preserved
loop-column-preserved c = or_other (has_name_in c.args.name.now.bytes) (λ x xs. same_name c.args.name.now.bytes x.name.bytes) (λ x xs. refl) _ c.args.columns.now c.loop-column.column-index c.column-item.result c.same_name.result c.loop-column.invariant c.loop-column-test.true c.column-item.is c.same_name.ensures c.if-same_name.false

pub returns : goal.returns
returns c = at_end (has_name_in c.args.name.now.bytes) _ c.args.columns.now c.loop-column.column-index c.loop-column.invariant c.loop-column-test.false
