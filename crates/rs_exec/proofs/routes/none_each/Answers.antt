use Rattle.std.proofs.Common.{ℕ}
use Rattle.rs_exec.specs.Routes.{HasNone}
use Rattle.rs_exec.proofs.Lists.{zips-none, zips-next, zips-all, more-numbers, end}
use Rattle.rs_exec.proofs.routes.none_each.Goals as goal

pub loop-number-init : goal.loop-number-init
loop-number-init c = zips-none (λ (number : ℕ) each. HasNone each) _ _ c.new-rows.ensures.items

pub loop-number-preserved : goal.loop-number-preserved
loop-number-preserved c =
    zips-next (λ (number : ℕ) each. HasNone each) _ _ _ _ _ _ _ c.loop-number.invariant
    (more-numbers c.args.numbers.now c.loop-number._number-index c.loop-number-test.true) c.in_ok-push.ensures.items c.new.ensures.items

pub returns : goal.returns
returns c = zips-all (λ (number : ℕ) each. HasNone each) _ _ _ c.loop-number.invariant (end c.args.numbers.now c.loop-number._number-index c.loop-number-test.false)
