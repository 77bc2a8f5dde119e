use Rattle.rs_attr.proofs.OpenSpans.{AreApart}
use Rattle.rs_attr.proofs.apart.lie_apart.Given as goal

abbrev pub invariant-loop-stretch : goal.invariant-loop-stretch
invariant-loop-stretch l = AreApart l.kind l.stretches l.stretch-index l.opened.items l.lo
