use Rattle.std.proofs.Common.{refl, ap, ◌∙◌}
use Rattle.rs_checker.proofs.ColumnLaws.{twice_in, is_among_in, rest_is}
use Rattle.rs_checker.proofs.Walks.{or_found, or_other, at_end}
use Rattle.rs_checker.proofs.columns.some_name_twice.Goals as goal

pub returns-then-is_among : goal.returns-then-is_among
returns-then-is_among c = or_found twice_in (λ x xs. is_among_in x.bytes xs) (λ x xs. refl) _ c.args.names.now c.loop-i.i c.index-names-i.result c.is_among.result c.loop-i.invariant c.loop-i-test.true c.index-names-i.is (c.is_among.ensures ∙ ap (is_among_in c.index-names-i.result.bytes) (rest_is c.args.names.now c.loop-i.i)) c.if-is_among.true

pub loop-i-preserved : goal.loop-i-preserved
loop-i-preserved c = or_other twice_in (λ x xs. is_among_in x.bytes xs) (λ x xs. refl) _ c.args.names.now c.loop-i.i c.index-names-i.result c.is_among.result c.loop-i.invariant c.loop-i-test.true c.index-names-i.is (c.is_among.ensures ∙ ap (is_among_in c.index-names-i.result.bytes) (rest_is c.args.names.now c.loop-i.i)) c.if-is_among.false

pub returns : goal.returns
returns c = at_end twice_in _ c.args.names.now c.loop-i.i c.loop-i.invariant c.loop-i-test.false
