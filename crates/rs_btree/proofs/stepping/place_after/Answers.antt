-- The key of the record in the middle decides which half is left.
use Rattle.std.proofs.Common.{◌≡◌, ◌<◌, ◌+◌, ◌-◌, ◌/◌, ℕ, true, false, [], slice_index_or, sym, subst, arith}
use Rattle.rs_records.specs.Order.{is_below}
use Rattle.rs_records.specs.Records.{records, keys}
use Rattle.rs_records.proofs.RecordLists.{length-keys}
use Rattle.rs_btree.proofs.Pages.{key_told}
use Rattle.rs_btree.proofs.stepping.place_after.Goals as goal

pub loop-low-preserved-then-is_below : goal.loop-low-preserved-then-is_below
loop-low-preserved-then-is_below c =
    let middle : ℕ = c.loop-low.low + (c.loop-low.high - c.loop-low.low) / 2 in
    let less : middle < c.loop-low.high = omega (arith, c.loop-low-test.true) in
    let there = c.record_at-found.ensures.one c.args.count (omega (arith, less, c.loop-low.invariant.within)) in
    let at : is_below c.args.key.now (slice_index_or (keys c.args.from (records c.args.count c.args.width c.args.bytes.now)) middle []) ≡ true =
    key_told c.args.from (records c.args.count c.args.width c.args.bytes.now) middle c.record_at-found.result.now c.args.key.now true there (c.if-is_below.ensures) in
    record {
      ends = omega arith;
      within = omega (arith, less, c.loop-low.invariant.within);
      before = c.loop-low.invariant.before;
      after = λ _. at;
    }

pub loop-low-preserved : goal.loop-low-preserved
loop-low-preserved c =
    let middle : ℕ = c.loop-low.low + (c.loop-low.high - c.loop-low.low) / 2 in
    let less : middle < c.loop-low.high = omega (arith, c.loop-low-test.true) in
    let there = c.record_at-found.ensures.one c.args.count (omega (arith, less, c.loop-low.invariant.within)) in
    let at : is_below c.args.key.now (slice_index_or (keys c.args.from (records c.args.count c.args.width c.args.bytes.now)) middle []) ≡ false =
    key_told c.args.from (records c.args.count c.args.width c.args.bytes.now) middle c.record_at-found.result.now c.args.key.now false there (c.if-is_below.ensures) in
    record {
      ends = omega (arith, less);
      within = c.loop-low.invariant.within;
      before = λ last e. let same : middle ≡ last = omega (arith, e) in
          subst (λ i. is_below c.args.key.now (slice_index_or (keys c.args.from (records c.args.count c.args.width c.args.bytes.now)) i []) ≡ false) same at;
      after = c.loop-low.invariant.after;
    }

pub returns-clause-between : goal.returns-clause-between
returns-clause-between c =
    let count = length-keys c.args.from c.args.count c.args.width c.args.bytes.now in
    let same : c.loop-low.low ≡ c.loop-low.high = omega (arith, c.loop-low.invariant.ends, c.loop-low-test.false) in
    record {
      before = c.loop-low.invariant.before;
      after = λ h. subst (λ i. is_below c.args.key.now (slice_index_or (keys c.args.from (records c.args.count c.args.width c.args.bytes.now)) i []) ≡ true) (sym same)
          (c.loop-low.invariant.after (omega (arith, count, h, same)));
    }
