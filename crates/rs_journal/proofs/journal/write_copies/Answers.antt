-- One copy more.
use Rattle.std.proofs.Common.{◌∙◌, IsTrue, subst, sym, arith, rules}
use Rattle.rs_journal.proofs.Words.{outside-part, no-copies, copies-more}
use Rattle.rs_disk.proofs.Reaching.{keeps_all, reaches_none, reaches_on}
use Rattle.rs_journal.proofs.journal.write_copies.Goals as goal

pub loop-place-init : goal.loop-place-init
loop-place-init g c = record {
  failures = search rules;
  reaches = reaches_none g.D.Disk _ _ (λ a. keeps_all _ a);
  written = λ honest. no-copies _ _ _;
}

pub returns-in_err-write_page-clause-reaches : goal.returns-in_err-write_page-clause-reaches
returns-in_err-write_page-clause-reaches g c =
    reaches_on g.D.Disk _ _ _ _ _ _ (λ i is. is) (λ i is. outside-part _ _ _ _ i (omega arith) (omega arith) is)
    c.loop-place.invariant.reaches c.write_page.ensures.reaches

pub loop-place-preserved : goal.loop-place-preserved
loop-place-preserved g c = record {
  failures = c.in_ok-write_page.ensures.calls.count ∙ c.loop-place.invariant.failures;
  reaches = reaches_on g.D.Disk _ _ _ _ _ _ (λ i is. is) (λ i is. outside-part _ _ _ _ i (omega arith) (omega arith) is)
      c.loop-place.invariant.reaches c.write_page.ensures.reaches;
  written = λ honest.
      let still : IsTrue (g.D.Disk.is_honest c.loop-place.disk) = subst IsTrue (sym c.loop-place.invariant.reaches.honesty) honest in
      copies-more c.args.start c.loop-place.place _ _ _ _ _ (search rules) (c.write_page.ensures.reaches.reads still) (c.in_ok-write_page.ensures.written still) c.write_page.ensures.size c.page.ensures
      (c.loop-place.invariant.written honest);
}
