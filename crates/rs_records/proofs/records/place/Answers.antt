-- The key of the record in the middle decides which half is left.
use Rattle.std.proofs.Common.{◌≡◌, ◌<◌, ◌+◌, ◌-◌, ◌/◌, ℕ, true, false, [], slice_index_or, subst, sym, arith}
use Rattle.rs_records.specs.Order.{is_below}
use Rattle.rs_records.specs.Records.{records, keys}
use Rattle.rs_records.proofs.RecordLists.{key_found, length-keys}
use Rattle.rs_records.proofs.records.place.Goals as goal

pub loop-low-preserved-then-is_below : goal.loop-low-preserved-then-is_below
loop-low-preserved-then-is_below c =
    let middle : ℕ = c.loop-low.low + (c.loop-low.high - c.loop-low.low) / 2 in
    let below : middle < c.loop-low.high = omega arith in
    let there = c.record_at-found.ensures.one c.args.count (omega (arith, c.loop-low.invariant.within)) in
    let at : is_below (slice_index_or (keys c.args.from (records c.args.count c.args.width c.args.bytes.now)) middle []) c.args.key.now ≡ true =
    key_found c.args.from (records c.args.count c.args.width c.args.bytes.now) middle c.record_at-found.result.now c.args.key.now true there c.if-is_below.ensures in
    record {
      ends = omega arith;
      within = c.loop-low.invariant.within;
      before = λ last e. let same : middle ≡ last = omega arith in subst (λ i. is_below (slice_index_or (keys c.args.from (records c.args.count c.args.width c.args.bytes.now)) i []) c.args.key.now ≡ true) same at;
      after = c.loop-low.invariant.after;
    }

pub loop-low-preserved : goal.loop-low-preserved
loop-low-preserved c =
    let middle : ℕ = c.loop-low.low + (c.loop-low.high - c.loop-low.low) / 2 in
    let below : middle < c.loop-low.high = omega arith in
    let there = c.record_at-found.ensures.one c.args.count (omega (arith, c.loop-low.invariant.within)) in
    let at : is_below (slice_index_or (keys c.args.from (records c.args.count c.args.width c.args.bytes.now)) middle []) c.args.key.now ≡ false =
    key_found c.args.from (records c.args.count c.args.width c.args.bytes.now) middle c.record_at-found.result.now c.args.key.now false there c.if-is_below.ensures in
    record {
      ends = omega arith;
      within = omega (arith, c.loop-low.invariant.within);
      before = c.loop-low.invariant.before;
      after = λ _. at;
    }

pub returns : goal.returns
returns c =
    let count = length-keys c.args.from c.args.count c.args.width c.args.bytes.now in
    let same : c.loop-low.low ≡ c.loop-low.high = omega (arith, c.loop-low.invariant.ends) in
    record {
      within = omega (arith, count, c.loop-low.invariant.within);
      before = c.loop-low.invariant.before;
      after = λ h. subst (λ i. is_below (slice_index_or (keys c.args.from (records c.args.count c.args.width c.args.bytes.now)) i []) c.args.key.now ≡ false) (sym same) (c.loop-low.invariant.after (omega (arith, count, h)));
    }
