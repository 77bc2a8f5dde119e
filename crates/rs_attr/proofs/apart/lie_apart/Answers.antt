use Rattle.std.proofs.Common.{◌≡◌, ◌<◌, Contains, length, map, sym, subst, arith}
use Rattle.std.proofs.lemmas.List.{get_or_default}
use Rattle.rs_attr.proofs.Lent.{runs_where_apart}
use Rattle.rs_attr.specs.Meant.{stretch_of}
use Rattle.rs_attr.proofs.OpenSpans.{AreApart, all_apart, next_apart}
use Rattle.rs_attr.proofs.apart.lie_apart.Goals as goal

pub loop-stretch-preserved : goal.loop-stretch-preserved
loop-stretch-preserved c =
    let inside : c.loop-stretch.stretch-index < length c.args.stretches.now = omega (arith, c.loop-stretch-test.true) in
    next_apart c.args.kind c.args.stretches.now c.loop-stretch.stretch-index c.loop-stretch.opened.items c.close.new.opened.items c.push.new.self.items c.loop-stretch.lo _
    c.loop-stretch.invariant (λ d. get_or_default c.args.stretches.now c.loop-stretch.stretch-index d _ inside) (omega (arith, c.if-stretch-lo.false)) c.close.ensures
    (λ one among. c.have_row.ensures c.if-have_row.false one (subst (λ l. Contains l one) (sym c.as_slice.ensures.value) among))
    c.push.ensures.items

pub returns : goal.returns
returns c =
    let all : c.loop-stretch.stretch-index ≡ length c.args.stretches.now = omega (arith, c.loop-stretch-test.false, c.loop-stretch.auto.stretch-index-end) in
    λ is.
    runs_where_apart c.args.kind (map stretch_of c.args.stretches.now) c.requires
    (all_apart c.args.kind c.args.stretches.now c.loop-stretch.opened.items c.loop-stretch.lo
    (subst (λ n. AreApart c.args.kind c.args.stretches.now n c.loop-stretch.opened.items c.loop-stretch.lo) all c.loop-stretch.invariant))
