-- One index after the other.
use Rattle.std.proofs.Common.{◌≡◌, ◌+◌, ℕ, suc, Ok, Err, List, length, take, refl, ap, subst, arith}
use Rattle.std.proofs.lemmas.List.{take_all}
use Rattle.std.proofs.lemmas.Option.{slice_get_read}
use Rattle.std.proofs.lemmas.Result.{err_from_is_err_and}
use Rattle.rs_attr.specs.Opening.{HaveAllEntries}
use Rattle.rs_attr.specs.Tables.{IndexState}
use Rattle.rs_attr.proofs.PartsChecked.{entered_next, not_entered_at}
use Rattle.rs_refusal.specs.declared.refusal.Refusal.TheVariants as refusal
use Rattle.rs_records.specs.Listed.{listed}
use Rattle.rs_pages.proofs.Resting.{rests_none, rests_then}
use Rattle.rs_attr.proofs.opening.check_all.Goals as goal

pub loop-index-init : goal.loop-index-init
loop-index-init g c = record {
  rests = rests_none g.P.Pages.is_tied g.P.Pages.store g.P.Pages.keeps tt c.args.pages.now (g.met.P.Pages.keeps_refl c.args.pages.now);
  entered = λ tied. tt;
}

pub returns-in_err-check_entries-clause-rests : goal.returns-in_err-check_entries-clause-rests
returns-in_err-check_entries-clause-rests g c =
    let p = err_from_is_err_and c.from_residual.result c.from_residual.ensures.1 in
    rw (p.1, p.2) (rests_then g.P.Pages.is_tied g.P.Pages.store g.P.Pages.keeps tt (Err c.in_err-check_entries.field-0.0) c.args.pages.now c.loop-index.pages c.check_entries.new.pages g.met.P.Pages.keeps_trans
    g.met.P.Pages.keeps_tied c.loop-index.invariant.rests c.in_err-check_entries.ensures.rests)

pub returns-in_err-check_entries-clause-checks : goal.returns-in_err-check_entries-clause-checks
returns-in_err-check_entries-clause-checks g c = λ tied.
    let later = g.met.P.Pages.keeps_tied c.args.pages.now c.loop-index.pages c.loop-index.invariant.rests.below tied in
    let same = c.loop-index.invariant.rests.rests.keeps.pages tied in
    let p = err_from_is_err_and c.from_residual.result c.from_residual.ensures.1 in
    record {
      entered = rw (p.1) tt;
      damaged = λ is.
          let why : c.in_err-check_entries.field-0.0 ≡ refusal.DamagedFile = cc (p.1, p.2, is) in
          not_entered_at (g.P.Pages.store c.args.pages.now).map (g.P.Pages.store c.loop-index.pages).map same c.args.indexes.now c.loop-index.index-index c.index-item.result
          (slice_get_read c.args.indexes.now (length c.args.indexes.now) c.loop-index.index-index c.index-item.result refl c.loop-index-test.true c.index-item.is) (listed c.args.cells.now)
          ((c.in_err-check_entries.ensures.looks_up later).damaged (ap Err why));
    }

pub loop-index-preserved : goal.loop-index-preserved
loop-index-preserved g c = record {
  rests = rests_then g.P.Pages.is_tied g.P.Pages.store g.P.Pages.keeps tt (Ok tt) c.args.pages.now c.loop-index.pages c.check_entries.new.pages g.met.P.Pages.keeps_trans g.met.P.Pages.keeps_tied
      c.loop-index.invariant.rests c.in_ok-check_entries.ensures.rests;
  entered = λ tied.
      let later = g.met.P.Pages.keeps_tied c.args.pages.now c.loop-index.pages c.loop-index.invariant.rests.below tied in
      let same = c.loop-index.invariant.rests.rests.keeps.pages tied in
      let next : suc c.loop-index.index-index ≡ c.loop-index.index-index + 1 = omega arith in
      subst (λ (n : ℕ). HaveAllEntries (g.P.Pages.store c.args.pages.now).map (take n c.args.indexes.now) (listed c.args.cells.now)) next
      (entered_next (g.P.Pages.store c.args.pages.now).map (g.P.Pages.store c.loop-index.pages).map same c.args.indexes.now c.loop-index.index-index c.index-item.result
      (slice_get_read c.args.indexes.now (length c.args.indexes.now) c.loop-index.index-index c.index-item.result refl c.loop-index-test.true c.index-item.is) (listed c.args.cells.now)
      (c.loop-index.invariant.entered tied) (c.in_ok-check_entries.ensures.looks_up later).entered);
}

pub returns-clause-rests : goal.returns-clause-rests
returns-clause-rests g c = c.loop-index.invariant.rests

pub returns-clause-checks : goal.returns-clause-checks
returns-clause-checks g c = λ tied. record {
  entered = subst (λ (xs : List IndexState). HaveAllEntries (g.P.Pages.store c.args.pages.now).map xs (listed c.args.cells.now)) (take_all c.loop-index.index-index c.args.indexes.now (omega arith))
      (c.loop-index.invariant.entered tied);
  damaged = λ is. absurd (cc);
}
