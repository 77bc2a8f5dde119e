-- One round after the other.
use Rattle.std.proofs.Common.{◌≡◌, List, arith, subst, sym}
use Rattle.arrayvec.specs.ArrayString.{ArrayString}
use Rattle.rs_dump.specs.Views.{HasAllThatPass, known_of, names_of}
use Rattle.rs_dump.proofs.Counted.{all_of_them}
use Rattle.rs_dump.proofs.Rounds.{goes_nowhere, goes_on, grown_length, same_list}
use Rattle.rs_dump.proofs.Stops.{passed_on}
use Rattle.rs_dump.proofs.views.write_rounds.Goals as goal

pub loop-round-init : goal.loop-round-init
loop-round-init g c = record {
  goes = goes_nowhere c.args.defined.now c.args.sorted.now (g.W.Write.contents c.args.output.now);
  count = omega arith;
}

pub loop-round-preserved : goal.loop-round-preserved
loop-round-preserved g c =
    let old = c.loop-round.sorted in
    let new = c.write_ready.new.sorted in
    let step = c.in_ok-write_ready.ensures.goes in record {
      goes = goes_on c.args.defined.now c.args.sorted.now old new (g.W.Write.contents c.args.output.now) (g.W.Write.contents c.loop-round.output)
          (g.W.Write.contents c.write_ready.new.output) c.loop-round.invariant.goes step;
      count = omega (
        arith,
        grown_length old.written.items new.written.items step.grows,
        c.len-before.ensures,
        c.len.ensures,
        old.written.ok.0,
        new.written.ok.0,
        c.loop-round.invariant.count,
        c.if-len-before.false,
      );
    }

pub returns-then-len-before-clause-goes : goal.returns-then-len-before-clause-goes
returns-then-len-before-clause-goes g c =
    goes_on c.args.defined.now c.args.sorted.now c.loop-round.sorted c.write_ready.new.sorted (g.W.Write.contents c.args.output.now) (g.W.Write.contents c.loop-round.output)
    (g.W.Write.contents c.write_ready.new.output) c.loop-round.invariant.goes c.in_ok-write_ready.ensures.goes

pub returns-then-len-before-clause-passing : goal.returns-then-len-before-clause-passing
returns-then-len-before-clause-passing g c = λ before sorted are.
    let old = c.loop-round.sorted in
    let new = c.write_ready.new.sorted in
    let same : new.written.items ≡ old.written.items =
    same_list old.written.items new.written.items c.in_ok-write_ready.ensures.goes.grows
    (omega (arith, c.if-len-before.true, c.len-before.ensures, c.len.ensures, old.written.ok.0, new.written.ok.0)) in
    subst (λ (items : List ArrayString). HasAllThatPass (known_of c.args.defined.now) (names_of items)) (sym same)
    (c.in_ok-write_ready.ensures.passing same (c.loop-round.invariant.goes.refusals are))

pub returns-clause-passing : goal.returns-clause-passing
returns-clause-passing g c = λ before sorted are.
    all_of_them (known_of c.args.defined.now) c.loop-round.sorted.written.items before (g.W.Write.contents c.loop-round.output)
    (c.loop-round.invariant.goes.sorted before sorted) (omega (arith, c.views_len-round-end.ensures, c.loop-round.invariant.count))

pub returns-in_err-write_ready-clause-stops : goal.returns-in_err-write_ready-clause-stops
returns-in_err-write_ready-clause-stops g c =
    let stops = c.in_err-write_ready.ensures.stops in
    passed_on c.from_residual.result c.in_err-write_ready.field-0.0 _ _ c.from_residual.ensures.1 (stops.0, λ before sorted. stops.1 before (c.loop-round.invariant.goes.sorted before sorted))
