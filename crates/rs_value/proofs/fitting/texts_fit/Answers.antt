use Rattle.std.proofs.Common.{sym, ◌∙◌, arith}
use Rattle.rs_value.specs.Fitting.{has_room}
use Rattle.rs_value.proofs.FittingLemmas.{passes_on}
use Rattle.rs_value.proofs.fitting.texts_fit.Goals as goal

pub loop-i-preserved : goal.loop-i-preserved
loop-i-preserved c = c.loop-i.invariant
    ∙ passes_on has_room c.args.columns.now c.args.literals.now c.loop-i.i _ c.index-literals-i.result c.loop-i-test.true (omega arith) c.index-literals-i.is (sym c.has_room.ensures ∙ c.if-not-has_room.false)
