-- One page of numbers more.
use Rattle.std.proofs.Common.{◌∙◌, IsTrue, subst, sym, arith, rules}
use Rattle.rs_journal.proofs.Words.{outside-part, no-numbers, numbers-more}
use Rattle.rs_disk.proofs.Reaching.{keeps_all, reaches_none, reaches_on}
use Rattle.rs_journal.proofs.journal.write_numbers.Goals as goal

pub loop-page-init : goal.loop-page-init
loop-page-init g c = record {
  failures = search rules;
  reaches = reaches_none g.D.Disk _ _ (λ a. keeps_all _ a);
  written = λ honest. no-numbers _ _ _ _;
}

pub returns-in_err-write_number_page-clause-reaches : goal.returns-in_err-write_number_page-clause-reaches
returns-in_err-write_number_page-clause-reaches g c =
    reaches_on g.D.Disk _ _ _ _ _ _ (λ i is. is) (λ i is. outside-part _ _ _ _ i (omega arith) (omega arith) is)
    c.loop-page.invariant.reaches c.write_number_page.ensures.reaches

pub loop-page-preserved : goal.loop-page-preserved
loop-page-preserved g c = record {
  failures = c.in_ok-write_number_page.ensures.calls.count ∙ c.loop-page.invariant.failures;
  reaches = reaches_on g.D.Disk _ _ _ _ _ _ (λ i is. is) (λ i is. outside-part _ _ _ _ i (omega arith) (omega arith) is)
      c.loop-page.invariant.reaches c.write_number_page.ensures.reaches;
  written = λ honest.
      let still : IsTrue (g.D.Disk.is_honest c.loop-page.disk) = subst IsTrue (sym c.loop-page.invariant.reaches.honesty) honest in
      numbers-more _ _ _ _ _ _ (c.write_number_page.ensures.reaches.reads still) (c.in_ok-write_number_page.ensures.written still)
      (c.loop-page.invariant.written honest);
}
