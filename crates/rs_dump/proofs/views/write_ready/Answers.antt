-- One view after the other.
use Rattle.std.proofs.Common.{◌∙◌, ap}
use Rattle.rs_catalog.specs.Names.{entries_by_bytes}
use Rattle.rs_dump.proofs.Rounds.{round_begins, round_ends, round_goes_on}
use Rattle.rs_dump.proofs.Stops.{passed_on}
use Rattle.rs_dump.proofs.views.write_ready.Goals as goal

pub loop-name-init : goal.loop-name-init
loop-name-init g c =
    round_begins c.args.defined.now c.args.sorted.now (entries_by_bytes (λ view. view) c.into_iter-name-iterator.result) (g.W.Write.contents c.args.output.now)
    (ap (entries_by_bytes (λ view. view)) c.into_iter-name-iterator.ensures.into_iter_gives ∙ c.views-name-items.ensures)

pub loop-name-preserved : goal.loop-name-preserved
loop-name-preserved g c =
    round_goes_on c.args.defined.now c.args.sorted.now c.loop-name.sorted c.write_one.new.sorted (entries_by_bytes (λ view. view) c.loop-name.name-iterator)
    (entries_by_bytes (λ view. view) c.next.new.self) (c.in-Some.name.now.bytes, c.in-Some.view.now) (g.W.Write.contents c.args.output.now) (g.W.Write.contents c.loop-name.output)
    (g.W.Write.contents c.write_one.new.output) (ap (entries_by_bytes (λ view. view)) c.in-Some.ensures.steps) c.loop-name.invariant c.in_ok-write_one.ensures.goes
    c.in_ok-write_one.ensures.lacks

pub returns-clause-passing : goal.returns-clause-passing
returns-clause-passing g c =
    round_ends c.args.defined.now c.args.sorted.now c.loop-name.sorted (entries_by_bytes (λ view. view) c.loop-name.name-iterator) (g.W.Write.contents c.args.output.now)
    (g.W.Write.contents c.loop-name.output) (ap (entries_by_bytes (λ view. view)) c.in-None.ensures.steps.0) c.loop-name.invariant

pub returns-in_err-write_one-clause-stops : goal.returns-in_err-write_one-clause-stops
returns-in_err-write_one-clause-stops g c =
    let stops = c.in_err-write_one.ensures.stops in
    passed_on c.from_residual.result c.in_err-write_one.field-0.0 _ _ c.from_residual.ensures.1 (stops.0, λ before sorted. stops.1 before (c.loop-name.invariant.goes.sorted before sorted))
