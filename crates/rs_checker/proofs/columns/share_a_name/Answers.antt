use Rattle.std.proofs.Common.{refl}
use Rattle.rs_checker.proofs.ColumnLaws.{has_name_in, share_in}
use Rattle.rs_checker.proofs.Walks.{or_found, or_other, at_end}
use Rattle.rs_checker.proofs.columns.share_a_name.Goals as goal

pub returns-then-has_name : goal.returns-then-has_name
returns-then-has_name c = or_found (share_in c.args.right.now) (λ x xs. has_name_in x.name.bytes c.args.right.now) (λ x xs. refl) _ c.args.left.now c.loop-column.column-index c.column-item.result c.has_name.result c.loop-column.invariant c.loop-column-test.true c.column-item.is c.has_name.ensures c.if-has_name.true

pub loop-column-preserved : goal.loop-column-preserved
loop-column-preserved c = or_other (share_in c.args.right.now) (λ x xs. has_name_in x.name.bytes c.args.right.now) (λ x xs. refl) _ c.args.left.now c.loop-column.column-index c.column-item.result c.has_name.result c.loop-column.invariant c.loop-column-test.true c.column-item.is c.has_name.ensures c.if-has_name.false

pub returns : goal.returns
returns c = at_end (share_in c.args.right.now) _ c.args.left.now c.loop-column.column-index c.loop-column.invariant c.loop-column-test.false
