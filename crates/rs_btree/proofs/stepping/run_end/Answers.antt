-- Of cells that ascend those before one that is below the key are below it too.
use Rattle.std.proofs.Common.{◌≡◌, ◌<◌, ◌+◌, ◌-◌, ◌/◌, ℕ, List, Some, true, inl, inr, slice_get, subst, arith, rules}
use Rattle.std.proofs.lemmas.Bool.{cases_order}
use Rattle.rs_records.specs.Listed.{listed}
use Rattle.rs_records.specs.Order.{is_below}
use Rattle.rs_records.proofs.Orders.{is_below-trans}
use Rattle.rs_btree.specs.Looking.{OfEach}
use Rattle.rs_btree.proofs.stepping.run_end.Goals as goal

pub loop-low-preserved-then-is_below : goal.loop-low-preserved-then-is_below
loop-low-preserved-then-is_below c =
    let middle : ℕ = c.loop-low.low + (c.loop-low.high - c.loop-low.low) / 2 in
    let less : middle < c.loop-low.high = omega (arith, c.loop-low-test.true) in
    let low : c.loop-low.low < middle + 1 = omega arith in
    let cells = listed c.args.cells.now in
    let found : List ℕ = c.get.result.now in
    let key : List ℕ = c.args.key.now in
    let here : is_below found key ≡ true = search rules in
    let each : OfEach (λ cell. is_below cell key ≡ true) cells (c.args.from + 1) (middle + 1) =
    λ place cell after before there. elim (cases_order place middle) [
      | inl same ↦
          let is : slice_get cells middle ≡ Some cell = subst (λ (k : ℕ). slice_get cells k ≡ Some cell) same there in
          let level : found ≡ cell = cc in
          subst (λ (x : List ℕ). is_below x key ≡ true) level here
      | inr (inl earlier) ↦
          is_below-trans cell found key
          (c.requires.rising place middle cell found (omega (arith, after)) earlier (omega (arith, less, c.loop-low.invariant.within)) there c.get.ensures) here
      | inr (inr later) ↦ absurd (omega (arith, later, before))
    ] in
    record {
      ends = omega (arith, less);
      after = omega (arith, low, c.loop-low.invariant.after);
      within = c.loop-low.invariant.within;
      below = each;
    }
