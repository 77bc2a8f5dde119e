use Rattle.std.proofs.Common.{refl}
use Rattle.rs_facts.specs.Insert.{same_name}
use Rattle.rs_checker.proofs.ColumnLaws.{is_among_in}
use Rattle.rs_checker.proofs.Walks.{or_found, or_other, at_end}
use Rattle.rs_checker.proofs.columns.is_among.Goals as goal

pub returns-then-same_name : goal.returns-then-same_name
returns-then-same_name c = or_found (is_among_in c.args.name.now.bytes) (λ x xs. same_name c.args.name.now.bytes x.bytes) (λ x xs. refl) _ c.args.names.now c.loop-other.other-index c.other-item.result c.same_name.result c.loop-other.invariant c.loop-other-test.true c.other-item.is c.same_name.ensures c.if-same_name.true

pub loop-other-preserved : goal.loop-other-preserved
loop-other-preserved c = or_other (is_among_in c.args.name.now.bytes) (λ x xs. same_name c.args.name.now.bytes x.bytes) (λ x xs. refl) _ c.args.names.now c.loop-other.other-index c.other-item.result c.same_name.result c.loop-other.invariant c.loop-other-test.true c.other-item.is c.same_name.ensures c.if-same_name.false

pub returns : goal.returns
returns c = at_end (is_among_in c.args.name.now.bytes) _ c.args.names.now c.loop-other.other-index c.loop-other.invariant c.loop-other-test.false
