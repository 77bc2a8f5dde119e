-- One number more.
use Rattle.std.proofs.Common.{◌∙◌, IsTrue, refl, subst, sym, rules}
use Rattle.rs_journal.proofs.Recovering.{numbers-none, numbers-next, number-read}
use Rattle.rs_disk.proofs.Reaching.{reaches_none, same-then}
use Rattle.rs_journal.proofs.recovery.check_numbers.Goals as goal

pub loop-place-init : goal.loop-place-init
loop-place-init g c = record {
  failures = search rules;
  reaches = reaches_none g.D.Disk _ _ (λ a. refl);
  so_far = λ honest. numbers-none _ _;
}

pub loop-place-preserved : goal.loop-place-preserved
loop-place-preserved g c = record {
  failures = c.in_ok-read_word.ensures.calls.count ∙ c.loop-place.invariant.failures;
  reaches = same-then g.D.Disk _ _ _ c.loop-place.invariant.reaches c.read_word.ensures.reaches;
  so_far = λ honest.
      let still : IsTrue (g.D.Disk.is_honest c.loop-place.disk) = subst IsTrue (sym c.loop-place.invariant.reaches.honesty) honest in
      let is = number-read (g.D.Disk.seen c.args.disk.now) (g.D.Disk.seen c.loop-place.disk) c.args.first c.loop-place.place _ _ c.from-number.result
      (c.loop-place.invariant.reaches.reads honest) (search rules) (c.in_ok-read_word.ensures.word still) (search rules) in
      numbers-next _ c.loop-place.place c.loop-place.least _ _ _ is (search rules) (search rules) refl (c.loop-place.invariant.so_far honest);
}
