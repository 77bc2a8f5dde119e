-- One home page more.
use Rattle.std.proofs.Common.{◌∙◌, IsTrue, subst, sym, rules}
use Rattle.rs_journal.proofs.Homes.{no-home, home-more, one-leaves}
use Rattle.rs_disk.proofs.Reaching.{keeps_all, reaches_none, reaches_on}
use Rattle.rs_journal.proofs.home.write_home_pages.Goals as goal

pub loop-place-init : goal.loop-place-init
loop-place-init g c = record {
  failures = search rules;
  reaches = reaches_none g.D.Disk _ _ (λ a. keeps_all _ a);
  written = λ honest. no-home _ _ _;
}

pub returns-in_err-write_home_page-clause-reaches : goal.returns-in_err-write_home_page-clause-reaches
returns-in_err-write_home_page-clause-reaches g c =
    reaches_on g.D.Disk _ _ _ _ _ _ (λ i is. is) (λ i is. one-leaves _ c.loop-place.place _ _ i (search rules) c.number.ensures is)
    c.loop-place.invariant.reaches c.write_home_page.ensures.reaches

pub loop-place-preserved : goal.loop-place-preserved
loop-place-preserved g c = record {
  failures = c.in_ok-write_home_page.ensures.calls.count ∙ c.loop-place.invariant.failures;
  reaches = reaches_on g.D.Disk _ _ _ _ _ _ (λ i is. is) (λ i is. one-leaves _ c.loop-place.place _ _ i (search rules) c.number.ensures is)
      c.loop-place.invariant.reaches c.write_home_page.ensures.reaches;
  written = λ honest.
      let still : IsTrue (g.D.Disk.is_honest c.loop-place.disk) = subst IsTrue (sym c.loop-place.invariant.reaches.honesty) honest in
      home-more c.loop-place.place _ _ _ _ _ _ c.number.ensures (λ k lt. c.requires k c.loop-place.place lt (search rules))
      (c.write_home_page.ensures.reaches.reads still) (c.in_ok-write_home_page.ensures.written still) c.page.ensures
      (c.loop-place.invariant.written honest);
}
