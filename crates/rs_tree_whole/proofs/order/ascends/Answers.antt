-- One more record after the other; a record that isn't below the next shows that not all are.
use Rattle.std.proofs.Common.{◌≡◌, ◌-◌, suc, slice_get, refl, sym, ap, ◌∙◌, arith}
use Rattle.std.proofs.lemmas.Bool.{false≢true}
use Rattle.rs_records.specs.Records.{records}
use Rattle.rs_records.proofs.RecordLists.{length-records}
use Rattle.rs_tree_whole.proofs.Orders.{steps_none, steps_more, steps_all, ascends_steps}
use Rattle.rs_tree_whole.proofs.order.ascends.Goals as goal

pub loop-index-init : goal.loop-index-init
loop-index-init c = steps_none (records c.args.count c.args.width c.args.bytes.now) 1 (omega arith)

pub returns-then-not-is_below : goal.returns-then-not-is_below
returns-then-not-is_below c =
    let next : suc (c.loop-index.index - 1) ≡ c.loop-index.index = omega arith in (
      λ no. absurd (cc),
      λ up. absurd (false≢true (sym c.if-not-is_below.true ∙ c.is_below.ensures
          ∙ ascends_steps (records c.args.count c.args.width c.args.bytes.now) (c.loop-index.index - 1) c.record_at-before.result.now c.record_at.result.now up
          (c.record_at-before.ensures.one c.args.count (omega arith)) (ap (slice_get (records c.args.count c.args.width c.args.bytes.now)) next ∙ c.record_at.ensures.one c.args.count (omega arith)))),
    )

pub loop-index-preserved : goal.loop-index-preserved
loop-index-preserved c =
    steps_more (records c.args.count c.args.width c.args.bytes.now) c.loop-index.index c.record_at-before.result.now c.record_at.result.now (omega arith) c.loop-index.invariant
    (c.record_at-before.ensures.one c.args.count (omega arith)) (c.record_at.ensures.one c.args.count (omega arith)) (sym c.is_below.ensures ∙ c.if-not-is_below.false)

pub returns : goal.returns
returns c =
    let all = steps_all (records c.args.count c.args.width c.args.bytes.now) c.loop-index.index (omega (arith, length-records c.args.count c.args.width c.args.bytes.now)) c.loop-index.invariant in
    (λ yes. all, λ up. refl)
