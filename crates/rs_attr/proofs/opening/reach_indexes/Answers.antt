-- One index after the other.
use Rattle.std.proofs.Common.{◌≡◌, ◌<◌, ◌∙◌, ◌+◌, ℕ, suc, Some, Ok, Err, List, length, take, refl, sym, ap, subst, arith}
use Rattle.std.proofs.Math.Dec.{eqb}
use Rattle.std.proofs.lemmas.Bool.{not-false, not-true}
use Rattle.std.proofs.lemmas.List.{take_all}
use Rattle.std.proofs.lemmas.Option.{slice_get_read}
use Rattle.std.proofs.lemmas.Result.{err_from_is_err_and}
use Rattle.std.specs.Option.{option_eq}
use Rattle.rs_attr.specs.Opening.{ReachesIndexes}
use Rattle.rs_attr.specs.Tables.{IndexState}
use Rattle.rs_attr.proofs.Counted.{reaches_missing, reaches_next, reaches_none, reaches_other, sum_is, sum_isnt}
use Rattle.rs_refusal.specs.declared.refusal.Refusal.TheVariants as refusal
use Rattle.rs_page_marks.specs.Marks.{taken}
use Rattle.rs_pages.proofs.Resting.{rests_none, rests_then}
use Rattle.rs_cell_versions.proofs.Refusing.{rests_err, rests_ok, rests_refused}
use Rattle.rs_attr.proofs.opening.reach_indexes.Goals as goal

pub loop-index-init : goal.loop-index-init
loop-index-init g c = record {
  rests = rests_none g.P.Pages.is_tied g.P.Pages.store g.P.Pages.keeps tt c.args.pages.now (g.met.P.Pages.keeps_refl c.args.pages.now);
  size = refl;
  reaches = λ tied. reaches_none (g.P.Pages.store c.args.pages.now).map (c.args.told.living + c.args.told.garbage) c.args.indexes.now (taken c.args.reached.now);
}

pub returns-in_err-entries-clause-rests : goal.returns-in_err-entries-clause-rests
returns-in_err-entries-clause-rests g c =
    let p = err_from_is_err_and c.from_residual.result c.from_residual.ensures.1 in
    rw (p.1, p.2) (rests_err g.P.Pages.is_tied g.P.Pages.store g.P.Pages.keeps c.in_err-entries.field-0.0 c.args.pages.now c.validate.new.pages
    (rests_then g.P.Pages.is_tied g.P.Pages.store g.P.Pages.keeps tt (Err c.in_err-entries.field-0.0) c.args.pages.now c.loop-index.pages c.validate.new.pages g.met.P.Pages.keeps_trans g.met.P.Pages.keeps_tied
    c.loop-index.invariant.rests c.in_err-entries.ensures.rests))

pub returns-in_err-entries-clause-size : goal.returns-in_err-entries-clause-size
returns-in_err-entries-clause-size g c = c.in_err-entries.ensures.size ∙ c.loop-index.invariant.size

pub returns-in_err-entries-clause-reaches : goal.returns-in_err-entries-clause-reaches
returns-in_err-entries-clause-reaches g c = λ tied.
    let later = g.met.P.Pages.keeps_tied c.args.pages.now c.loop-index.pages c.loop-index.invariant.rests.below tied in
    let same = c.loop-index.invariant.rests.rests.keeps.pages tied in
    let p = err_from_is_err_and c.from_residual.result c.from_residual.ensures.1 in
    record {
      reaches = rw (p.1) tt;
      damaged = λ is.
          let why : c.in_err-entries.field-0.0 ≡ refusal.DamagedFile = cc (p.1, p.2, is) in
          reaches_missing (g.P.Pages.store c.args.pages.now).map (g.P.Pages.store c.loop-index.pages).map same c.args.indexes.now (c.args.told.living + c.args.told.garbage) c.loop-index.index-index c.index-item.result
          (slice_get_read c.args.indexes.now (length c.args.indexes.now) c.loop-index.index-index c.index-item.result refl c.loop-index-test.true c.index-item.is)
          (taken c.args.reached.now) (taken c.loop-index.reached) (c.loop-index.invariant.reaches tied) ((c.in_err-entries.ensures.checks later).damaged (ap Err why));
    }

pub returns-then-ne-clause-rests : goal.returns-then-ne-clause-rests
returns-then-ne-clause-rests g c =
    rests_refused g.P.Pages.is_tied g.P.Pages.store g.P.Pages.keeps c.in_ok-entries.entries refusal.DamagedFile c.args.pages.now c.validate.new.pages (λ is. cc)
    (rests_then g.P.Pages.is_tied g.P.Pages.store g.P.Pages.keeps tt (Ok c.in_ok-entries.entries) c.args.pages.now c.loop-index.pages c.validate.new.pages g.met.P.Pages.keeps_trans g.met.P.Pages.keeps_tied
    c.loop-index.invariant.rests c.in_ok-entries.ensures.rests)

pub returns-then-ne-clause-size : goal.returns-then-ne-clause-size
returns-then-ne-clause-size g c = c.in_ok-entries.ensures.size ∙ c.loop-index.invariant.size

pub returns-then-ne-clause-reaches : goal.returns-then-ne-clause-reaches
returns-then-ne-clause-reaches g c = λ tied.
    let later = g.met.P.Pages.keeps_tied c.args.pages.now c.loop-index.pages c.loop-index.invariant.rests.below tied in
    let same = c.loop-index.invariant.rests.rests.keeps.pages tied in
    let other : c.in_ok-entries.entries ≡ c.args.told.living + c.args.told.garbage → ⊥ =
    sum_isnt c.checked_add.result (c.args.told.living + c.args.told.garbage) c.in_ok-entries.entries c.checked_add.ensures (omega arith) (not-true (option_eq eqb c.checked_add.result (Some c.in_ok-entries.entries)) (sym c.ne.ensures ∙ c.if-ne.true)) in
    record {
      reaches = tt;
      damaged = λ is.
          reaches_other (g.P.Pages.store c.args.pages.now).map (g.P.Pages.store c.loop-index.pages).map same c.args.indexes.now (c.args.told.living + c.args.told.garbage) c.loop-index.index-index c.index-item.result
          (slice_get_read c.args.indexes.now (length c.args.indexes.now) c.loop-index.index-index c.index-item.result refl c.loop-index-test.true c.index-item.is)
          (taken c.args.reached.now) c.in_ok-entries.entries (record { each = (c.in_ok-entries.ensures.checks later).counted }) other;
    }

pub loop-index-preserved : goal.loop-index-preserved
loop-index-preserved g c = record {
  rests = rests_ok g.P.Pages.is_tied g.P.Pages.store g.P.Pages.keeps c.in_ok-entries.entries tt c.args.pages.now c.validate.new.pages
      (rests_then g.P.Pages.is_tied g.P.Pages.store g.P.Pages.keeps tt (Ok c.in_ok-entries.entries) c.args.pages.now c.loop-index.pages c.validate.new.pages g.met.P.Pages.keeps_trans g.met.P.Pages.keeps_tied
      c.loop-index.invariant.rests c.in_ok-entries.ensures.rests);
  size = c.in_ok-entries.ensures.size ∙ c.loop-index.invariant.size;
  reaches = λ tied.
      let later = g.met.P.Pages.keeps_tied c.args.pages.now c.loop-index.pages c.loop-index.invariant.rests.below tied in
      let same = c.loop-index.invariant.rests.rests.keeps.pages tied in
      let next : suc c.loop-index.index-index ≡ c.loop-index.index-index + 1 = omega arith in
      let so : c.in_ok-entries.entries ≡ c.args.told.living + c.args.told.garbage =
      sum_is c.checked_add.result (c.args.told.living + c.args.told.garbage < 18446744073709551616) (c.args.told.living + c.args.told.garbage) c.in_ok-entries.entries c.checked_add.ensures
      (not-false (option_eq eqb c.checked_add.result (Some c.in_ok-entries.entries)) (sym c.ne.ensures ∙ c.if-ne.false)) in
      subst (λ (n : ℕ). ReachesIndexes (g.P.Pages.store c.args.pages.now).map (take n c.args.indexes.now) (c.args.told.living + c.args.told.garbage) (taken c.args.reached.now) (taken c.validate.new.reached)) next
      (reaches_next (g.P.Pages.store c.args.pages.now).map (g.P.Pages.store c.loop-index.pages).map same c.args.indexes.now (c.args.told.living + c.args.told.garbage) c.loop-index.index-index c.index-item.result
      (slice_get_read c.args.indexes.now (length c.args.indexes.now) c.loop-index.index-index c.index-item.result refl c.loop-index-test.true c.index-item.is)
      (taken c.args.reached.now) (taken c.loop-index.reached) (taken c.validate.new.reached) c.in_ok-entries.entries (c.loop-index.invariant.reaches tied) (c.in_ok-entries.ensures.checks later).validates (record { each = (c.in_ok-entries.ensures.checks later).counted }) so);
}

pub returns-clause-rests : goal.returns-clause-rests
returns-clause-rests g c = c.loop-index.invariant.rests

pub returns-clause-size : goal.returns-clause-size
returns-clause-size g c = c.loop-index.invariant.size

pub returns-clause-reaches : goal.returns-clause-reaches
returns-clause-reaches g c = λ tied. record {
  reaches = subst (λ (xs : List IndexState). ReachesIndexes (g.P.Pages.store c.args.pages.now).map xs (c.args.told.living + c.args.told.garbage) (taken c.args.reached.now) (taken c.loop-index.reached))
      (take_all c.loop-index.index-index c.args.indexes.now (omega arith)) (c.loop-index.invariant.reaches tied);
  damaged = λ is. absurd (cc);
}
