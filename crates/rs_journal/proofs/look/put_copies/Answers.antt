-- Pages before the first and after the last that the buffer has some bytes of are passed over.
use Rattle.std.proofs.Common.{ℕ, ◌+◌, ◌*◌, ◌/◌, length, slice_index, ap, refl, sym, rules}
use Rattle.rs_disk.proofs.Reaching.{reaches_none}
use Rattle.rs_page.specs.declared.page.TheConstants.{PAGE_SIZE}
use Rattle.rs_journal.proofs.Looking.{below-of, others-of, copied-from, copied-to}
use Rattle.rs_journal.proofs.look.put_copies.Goals as goal

pub loop-place-init : goal.loop-place-init
loop-place-init g c = record {
  failures = search rules;
  inside = search rules;
  reaches = reaches_none g.D.Disk _ _ (λ a. refl);
  put = λ honest ascends gives.
      copied-from (slice_index c.args.look.now.numbers.items) (λ k j. (g.D.Disk.seen c.args.disk.now).byte (PAGE_SIZE * (c.args.look.now.copies + k) + j))
      (g.D.Disk.seen c.args.disk.now).byte c.count_below-from.result _ c.args.at c.args.buffer.now refl
      (below-of _ c.args.look.now.numbers.items c.count_below-from.result _ c.deref.ensures.value c.count_below-from.ensures.below ascends) gives.each;
}

pub returns-clause-put : goal.returns-clause-put
returns-clause-put g c = λ honest ascends gives.
    copied-to (slice_index c.args.look.now.numbers.items) (λ k j. (g.D.Disk.seen c.args.disk.now).byte (PAGE_SIZE * (c.args.look.now.copies + k) + j))
    (g.D.Disk.seen c.args.disk.now).byte c.loop-place.place c.count_below-to.result (length c.args.look.now.numbers.items) _ c.args.at c.loop-place.buffer
    (ap (λ (n : ℕ). c.args.at / PAGE_SIZE + (n / PAGE_SIZE + 2)) (sym c.loop-place.auto.buffer)) c.loop-place.invariant.inside c.loop-place-test.false
    (others-of _ c.args.look.now.numbers.items c.count_below-to.result _ c.deref-2.ensures.value c.count_below-to.ensures.others ascends)
    (c.loop-place.invariant.put honest ascends gives)
