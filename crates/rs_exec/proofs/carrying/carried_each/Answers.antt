use Rattle.rs_exec.specs.Carried.{IsCarried}
use Rattle.rs_exec.proofs.Lists.{zips-none, zips-all, end}
use Rattle.rs_exec.proofs.carrying.carried_each.Goals as goal

pub loop-number-init : goal.loop-number-init
loop-number-init c = zips-none (IsCarried c.args.sources.now) _ _ c.new-rows.ensures.items

pub returns : goal.returns
returns c = zips-all (IsCarried c.args.sources.now) _ _ _ c.loop-number.invariant (end c.args.numbers.now c.loop-number.number-index c.loop-number-test.false)
