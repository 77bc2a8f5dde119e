use Rattle.std.proofs.Common.{sym, ◌∙◌, arith}
use Rattle.rs_value.specs.Fitting.{has_type}
use Rattle.rs_value.proofs.FittingLemmas.{passes_on}
use Rattle.rs_value.proofs.fitting.types_fit.Goals as goal

pub loop-i-preserved : goal.loop-i-preserved
loop-i-preserved c = c.loop-i.invariant
    ∙ passes_on has_type c.args.columns.now c.args.literals.now c.loop-i.i _ c.index-literals-i.result c.loop-i-test.true (omega arith) c.index-literals-i.is (sym c.has_type.ensures ∙ c.if-not-has_type.false)
