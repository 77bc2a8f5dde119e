use Rattle.std.proofs.Common.{map}
use Rattle.rs_total.specs.Answer.{answered}
use Rattle.rs_total.proofs.Answered.{AreMade}
use Rattle.rs_total.proofs.totals.each_total.Given as goal

abbrev pub invariant-loop-group : goal.invariant-loop-group
invariant-loop-group l = AreMade l.summed l.yielded (map answered l.totals.items)
