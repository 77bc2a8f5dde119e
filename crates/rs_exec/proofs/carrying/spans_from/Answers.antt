use Rattle.std.proofs.Common.{◌≡◌, ◌+◌, suc, length, drop, ap, ◌∙◌, arith}
use Rattle.rs_exec.specs.Carried.{given_on}
use Rattle.rs_exec.proofs.Gathering.{given-skip}
use Rattle.rs_exec.proofs.carrying.spans_from.Goals as goal

pub loop-place-preserved : goal.loop-place-preserved
loop-place-preserved c = λ k.
    let sources = c.args.sources.now in
    let next : c.loop-place.place + 1 ≡ suc c.loop-place.place = omega arith in
    let long : length sources.routes.others.now ≡ length sources.rows.now.others.items = let e = c.requires.can.long in omega (arith, e) in
    ap (λ n. given_on (drop n sources.routes.others.now) (drop n sources.rows.now.others.items) c.args.number k) next
    ∙ given-skip sources.routes.others.now sources.rows.now.others.items c.loop-place.place c.args.number k c.loop-place-test.true long c.if-number-other.false
    ∙ c.loop-place.invariant k
