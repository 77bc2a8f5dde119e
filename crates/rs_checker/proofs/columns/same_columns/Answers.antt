use Rattle.std.proofs.Common.{◌+◌, ◌&&◌, drop, sym, ap, ◌∙◌}
use Rattle.rs_checker.proofs.ColumnLaws.{agree, agree_lengths, agree_next, agree_end, not_true}
use Rattle.rs_checker.proofs.columns.same_columns.Goals as goal

pub returns-then-left-right : goal.returns-then-left-right
returns-then-left-right c = sym (not_true (agree c.args.left.now c.args.right.now) (λ e. c.if-left-right.true (agree_lengths c.args.left.now c.args.right.now e)))

pub returns-then-not-same_column : goal.returns-then-not-same_column
returns-then-not-same_column c =
    sym (sym c.loop-i.invariant ∙ agree_next c.args.left.now c.args.right.now c.loop-i.i c.index-left-i.result c.index-right-i.result c.same_column.result c.if-left-right.false c.loop-i-test.true c.index-left-i.is c.index-right-i.is c.same_column.ensures
    ∙ ap (λ t. t && agree (drop (c.loop-i.i + 1) c.args.left.now) (drop (c.loop-i.i + 1) c.args.right.now)) c.if-not-same_column.true)

pub loop-i-preserved : goal.loop-i-preserved
loop-i-preserved c =
    sym (sym c.loop-i.invariant ∙ agree_next c.args.left.now c.args.right.now c.loop-i.i c.index-left-i.result c.index-right-i.result c.same_column.result c.if-left-right.false c.loop-i-test.true c.index-left-i.is c.index-right-i.is c.same_column.ensures
    ∙ ap (λ t. t && agree (drop (c.loop-i.i + 1) c.args.left.now) (drop (c.loop-i.i + 1) c.args.right.now)) c.if-not-same_column.false)

pub returns : goal.returns
returns c = sym (agree_end c.args.left.now c.args.right.now c.loop-i.i c.if-left-right.false c.loop-i-test.false) ∙ c.loop-i.invariant
