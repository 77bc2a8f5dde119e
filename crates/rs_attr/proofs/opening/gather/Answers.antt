-- One cell after the other.
use Rattle.std.proofs.Common.{◌≡◌, ◌∙◌, ◌+◌, ◌++◌, ℕ, suc, Ok, Err, List, take, refl, sym, ap, subst, arith}
use Rattle.std.proofs.lemmas.List.{append-nil, take_all}
use Rattle.std.proofs.lemmas.Result.{err_from_is_err_and}
use Rattle.std.specs.List.{AllByRecursion, Contains}
use Rattle.rs_attr.specs.Opening.{HaveAllEntries}
use Rattle.rs_attr.specs.Tables.{IndexState}
use Rattle.rs_attr.proofs.Gathered.{among_next, entered_more, not_entered_here}
use Rattle.rs_attr.proofs.PartsChecked.{all_apart}
use Rattle.rs_refusal.specs.declared.refusal.Refusal.TheVariants as refusal
use Rattle.rs_records.specs.Listed.{listed}
use Rattle.rs_pages.proofs.Resting.{rests_none, rests_then}
use Rattle.rs_versioned.proofs.CellsWide.{cell_wide}
use Rattle.rs_attr.proofs.opening.gather.Goals as goal

pub returns-then-is_empty-clause-among : goal.returns-then-is_empty-clause-among
returns-then-is_empty-clause-among g c = λ all both. (all_apart (Contains all) (listed c.args.waiting.now) (listed c.args.cells.now) both).0

pub loop-place-init : goal.loop-place-init
loop-place-init g c = record {
  rests = rests_none g.P.Pages.is_tied g.P.Pages.store g.P.Pages.keeps tt c.args.pages.now (g.met.P.Pages.keeps_refl c.args.pages.now);
  wide = refl;
  entered = λ tied have. subst (HaveAllEntries (g.P.Pages.store c.args.pages.now).map c.args.indexes.now) (sym (append-nil (listed c.args.waiting.now))) have;
  among = λ all both. subst (AllByRecursion (Contains all)) (append-nil (listed c.args.waiting.now)) both;
}

pub gather_one-requires : goal.gather_one-requires
gather_one-requires g c = record {
  width = cell_wide c.args.cells.now c.loop-place.place c.get.result.now c.get.ensures ∙ c.requires.width ∙ sym c.loop-place.invariant.wide;
  indexes = subst (λ (w : ℕ). AllByRecursion (λ (index : IndexState). index.field.cell_width ≡ w) c.args.indexes.now) (sym c.loop-place.invariant.wide) c.requires.indexes;
}

pub returns-in_err-gather_one-clause-rests : goal.returns-in_err-gather_one-clause-rests
returns-in_err-gather_one-clause-rests g c =
    let p = err_from_is_err_and c.from_residual.result c.from_residual.ensures.1 in
    rw (p.1, p.2) (rests_then g.P.Pages.is_tied g.P.Pages.store g.P.Pages.keeps tt (Err c.in_err-gather_one.field-0.0) c.args.pages.now c.loop-place.pages c.gather_one.new.pages g.met.P.Pages.keeps_trans
    g.met.P.Pages.keeps_tied c.loop-place.invariant.rests c.in_err-gather_one.ensures.rests)

pub returns-in_err-gather_one-clause-width : goal.returns-in_err-gather_one-clause-width
returns-in_err-gather_one-clause-width g c = c.in_err-gather_one.ensures.width ∙ c.loop-place.invariant.wide

pub returns-in_err-gather_one-clause-gathers : goal.returns-in_err-gather_one-clause-gathers
returns-in_err-gather_one-clause-gathers g c = λ tied.
    let old = (g.P.Pages.store c.args.pages.now).map in
    let mid = (g.P.Pages.store c.loop-place.pages).map in
    let later = g.met.P.Pages.keeps_tied c.args.pages.now c.loop-place.pages c.loop-place.invariant.rests.below tied in
    let p = err_from_is_err_and c.from_residual.result c.from_residual.ensures.1 in
    record {
      entered = rw (p.1) tt;
      damaged = λ is.
          let why : c.in_err-gather_one.field-0.0 ≡ refusal.DamagedFile = cc (p.1, p.2, is) in
          not_entered_here old mid (c.loop-place.invariant.rests.rests.keeps.pages tied) c.args.indexes.now (listed c.args.waiting.now) (listed c.loop-place.waiting) (listed c.args.cells.now)
          c.loop-place.place c.get.result.now c.get.ensures c.loop-place.invariant.among ((c.in_err-gather_one.ensures.gathers later).damaged (ap Err why));
    }

pub loop-place-preserved : goal.loop-place-preserved
loop-place-preserved g c =
    let old = (g.P.Pages.store c.args.pages.now).map in
    let mid = (g.P.Pages.store c.loop-place.pages).map in
    let cells = listed c.args.cells.now in
    let i = c.loop-place.place in
    let next : suc i ≡ i + 1 = omega arith in
    record {
      rests = rests_then g.P.Pages.is_tied g.P.Pages.store g.P.Pages.keeps tt (Ok tt) c.args.pages.now c.loop-place.pages c.gather_one.new.pages g.met.P.Pages.keeps_trans g.met.P.Pages.keeps_tied
          c.loop-place.invariant.rests c.in_ok-gather_one.ensures.rests;
      wide = c.in_ok-gather_one.ensures.width ∙ c.loop-place.invariant.wide;
      entered = λ tied have.
          let later = g.met.P.Pages.keeps_tied c.args.pages.now c.loop-place.pages c.loop-place.invariant.rests.below tied in
          subst (λ (n : ℕ). HaveAllEntries old c.args.indexes.now (listed c.args.waiting.now ++ take n cells)) next
          (entered_more old mid (c.loop-place.invariant.rests.rests.keeps.pages tied) c.args.indexes.now (listed c.args.waiting.now) (listed c.loop-place.waiting) (listed c.gather_one.new.waiting) cells i
          c.get.result.now c.get.ensures (c.loop-place.invariant.entered tied) (c.in_ok-gather_one.ensures.gathers later).entered have);
      among = λ all both.
          c.in_ok-gather_one.ensures.among all
          (among_next all (listed c.args.waiting.now) (listed c.loop-place.waiting) cells i c.get.result.now c.get.ensures (c.loop-place.invariant.among all)
          (subst (λ (n : ℕ). AllByRecursion (Contains all) (listed c.args.waiting.now ++ take n cells)) (sym next) both));
    }

pub returns-clause-rests : goal.returns-clause-rests
returns-clause-rests g c = c.loop-place.invariant.rests

pub returns-clause-width : goal.returns-clause-width
returns-clause-width g c = c.loop-place.invariant.wide

pub returns-clause-gathers : goal.returns-clause-gathers
returns-clause-gathers g c = λ tied. record {
  entered = λ have.
      subst (λ (l : List (List ℕ)). HaveAllEntries (g.P.Pages.store c.args.pages.now).map c.args.indexes.now (listed c.args.waiting.now ++ l)) (take_all c.loop-place.place (listed c.args.cells.now) (omega arith))
      (c.loop-place.invariant.entered tied have);
  damaged = λ is. absurd (cc);
}

pub returns-clause-among : goal.returns-clause-among
returns-clause-among g c = λ all both.
    c.loop-place.invariant.among all
    (subst (λ (l : List (List ℕ)). AllByRecursion (Contains all) (listed c.args.waiting.now ++ l)) (sym (take_all c.loop-place.place (listed c.args.cells.now) (omega arith))) both)
