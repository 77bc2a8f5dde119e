-- One page more.
use Rattle.std.proofs.Common.{◌<◌, ◌∙◌, IsTrue, subst, sym, arith, rules}
use Rattle.rs_journal.proofs.Homes.{no-home, home-more, one-leaves}
use Rattle.rs_journal.proofs.Staging.{left-journal}
use Rattle.rs_journal.proofs.Recovering.{number-there, copy-there, home-inside, size-more}
use Rattle.rs_disk.proofs.Reaching.{keeps_all, reaches_none, reaches_on}
use Rattle.rs_journal.proofs.recovery.copy_home_pages.Goals as goal

pub loop-place-init : goal.loop-place-init
loop-place-init g c = record {
  failures = search rules;
  honesty = search rules;
  keeping = search rules;
  reaches = λ journal honest there. reaches_none g.D.Disk _ _ (λ a. keeps_all _ a);
  no_longer = λ journal honest there. omega arith;
  written = λ journal honest there. no-home _ _ _;
}

pub returns-in_err-copy_home_page-clause-reaches : goal.returns-in_err-copy_home_page-clause-reaches
returns-in_err-copy_home_page-clause-reaches g c = λ journal honest there.
    let so_far = c.loop-place.invariant.reaches journal honest there in
    let still : IsTrue (g.D.Disk.is_honest c.loop-place.disk) = subst IsTrue (sym c.loop-place.invariant.honesty) honest in
    let now = left-journal journal _ _ there.tells.well_formed (so_far.reads honest) there.tells.there in
    let lt : c.loop-place.place < journal.count = omega (arith, there.copies) in
    let is = number-there journal (g.D.Disk.seen c.loop-place.disk) c.args.first c.args.count c.loop-place.place _ there.first_page there.copies now (search rules) (search rules) in
    reaches_on g.D.Disk _ _ _ _ _ _ (λ i apart. apart) (λ i apart. one-leaves journal.count c.loop-place.place _ journal.number i lt is apart)
    so_far (c.copy_home_page.ensures.reaches still)

pub returns-in_err-copy_home_page-clause-no_longer : goal.returns-in_err-copy_home_page-clause-no_longer
returns-in_err-copy_home_page-clause-no_longer g c = λ journal honest there.
    let so_far = c.loop-place.invariant.reaches journal honest there in
    let still : IsTrue (g.D.Disk.is_honest c.loop-place.disk) = subst IsTrue (sym c.loop-place.invariant.honesty) honest in
    let now = left-journal journal _ _ there.tells.well_formed (so_far.reads honest) there.tells.there in
    let lt : c.loop-place.place < journal.count = omega (arith, there.copies) in
    let is = number-there journal (g.D.Disk.seen c.loop-place.disk) c.args.first c.args.count c.loop-place.place _ there.first_page there.copies now (search rules) (search rules) in
    size-more _ _ _ _ _ (c.loop-place.invariant.no_longer journal honest there) (c.copy_home_page.ensures.no_longer still) is
    (home-inside journal _ c.loop-place.place there.tells lt)

pub loop-place-preserved : goal.loop-place-preserved
loop-place-preserved g c = record {
  failures = c.in_ok-copy_home_page.ensures.calls.count ∙ c.loop-place.invariant.failures;
  honesty = c.copy_home_page.ensures.calls.honesty ∙ c.loop-place.invariant.honesty;
  keeping = c.copy_home_page.ensures.calls.keeping ∙ c.loop-place.invariant.keeping;
  reaches = λ journal honest there.
      let so_far = c.loop-place.invariant.reaches journal honest there in
      let still : IsTrue (g.D.Disk.is_honest c.loop-place.disk) = subst IsTrue (sym c.loop-place.invariant.honesty) honest in
      let now = left-journal journal _ _ there.tells.well_formed (so_far.reads honest) there.tells.there in
      let lt : c.loop-place.place < journal.count = omega (arith, there.copies) in
      let is = number-there journal (g.D.Disk.seen c.loop-place.disk) c.args.first c.args.count c.loop-place.place _ there.first_page there.copies now (search rules) (search rules) in
      reaches_on g.D.Disk _ _ _ _ _ _ (λ i apart. apart) (λ i apart. one-leaves journal.count c.loop-place.place _ journal.number i lt is apart)
      so_far (c.copy_home_page.ensures.reaches still);
  no_longer = λ journal honest there.
      let so_far = c.loop-place.invariant.reaches journal honest there in
      let still : IsTrue (g.D.Disk.is_honest c.loop-place.disk) = subst IsTrue (sym c.loop-place.invariant.honesty) honest in
      let now = left-journal journal _ _ there.tells.well_formed (so_far.reads honest) there.tells.there in
      let lt : c.loop-place.place < journal.count = omega (arith, there.copies) in
      let is = number-there journal (g.D.Disk.seen c.loop-place.disk) c.args.first c.args.count c.loop-place.place _ there.first_page there.copies now (search rules) (search rules) in
      size-more _ _ _ _ _ (c.loop-place.invariant.no_longer journal honest there) (c.copy_home_page.ensures.no_longer still) is
      (home-inside journal _ c.loop-place.place there.tells lt);
  written = λ journal honest there.
      let so_far = c.loop-place.invariant.reaches journal honest there in
      let still : IsTrue (g.D.Disk.is_honest c.loop-place.disk) = subst IsTrue (sym c.loop-place.invariant.honesty) honest in
      let now = left-journal journal _ _ there.tells.well_formed (so_far.reads honest) there.tells.there in
      let lt : c.loop-place.place < journal.count = omega (arith, there.copies) in
      let is = number-there journal (g.D.Disk.seen c.loop-place.disk) c.args.first c.args.count c.loop-place.place _ there.first_page there.copies now (search rules) (search rules) in
      home-more c.loop-place.place _ journal.number journal.copy _ _ _ is (λ k before. there.tells.well_formed.ascending k c.loop-place.place before lt)
      ((c.copy_home_page.ensures.reaches still).reads still) (c.in_ok-copy_home_page.ensures.written still)
      (copy-there journal (g.D.Disk.seen c.loop-place.disk) c.args.first c.args.count c.loop-place.place _ there.first_page there.copies now (search rules) (search rules))
      (c.loop-place.invariant.written journal honest there);
}
