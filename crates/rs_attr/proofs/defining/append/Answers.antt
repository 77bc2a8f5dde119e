-- One cell after the other.
use Rattle.std.proofs.Common.{refl, sym, ap, ◌∙◌, subst, arith}
use Rattle.std.proofs.lemmas.Result.{err_from_is_err_and}
use Rattle.rs_attr.specs.Inner.{AppendsNone}
use Rattle.rs_attr.specs.Entries.{ChangesIndex, Field, HoldsNoIndex}
use Rattle.rs_attr.proofs.Parts.{appends_all, appends_missing, appends_next, appends_none}
use Rattle.rs_records.specs.Listed.{listed}
use Rattle.rs_tree.specs.Cells.{with_cell}
use Rattle.rs_page_owners.proofs.Working.{CountsNothing-refl, CountsNothing-trans, Works-refl, Works-trans}
use Rattle.rs_page_owners.proofs.Following.{works_err}
use Rattle.rs_versioned.proofs.CellsWide.{cell_wide}
use Rattle.rs_attr.proofs.defining.append.Goals as goal

pub loop-place-init : goal.loop-place-init
loop-place-init g c = record {
  keeps = g.met.P.Pages.keeps_refl c.args.pages.now;
  works = Works-refl (g.P.Pages.store c.args.pages.now);
  nothing = CountsNothing-refl (g.P.Pages.store c.args.pages.now);
  field = refl;
  committed = refl;
  appended = λ tied. appends_none c.args.index.now.field (g.P.Pages.store c.args.pages.now).map c.args.index.now.working (listed c.args.cells.now);
}

pub put-requires-clause-width : goal.put-requires-clause-width
put-requires-clause-width g c =
    cell_wide c.args.cells.now c.loop-place.place c.get.result.now c.get.ensures ∙ c.requires.width ∙ ap (λ (f : Field). f.cell_width) (sym c.loop-place.invariant.field)

pub returns-in_err-put-clause-leaves : goal.returns-in_err-put-clause-leaves
returns-in_err-put-clause-leaves g c =
    let old = (g.P.Pages.store c.args.pages.now).map in
    let mid = (g.P.Pages.store c.loop-place.pages).map in
    let found = listed c.args.cells.now in
    let field = c.args.index.now.field in
    let p = err_from_is_err_and c.from_residual.result c.from_residual.ensures.1 in
    record {
      keeps = g.met.P.Pages.keeps_trans c.args.pages.now c.loop-place.pages c.put.new.pages c.loop-place.invariant.keeps c.in_err-put.ensures.leaves.keeps;
      works = rw (p.1, p.2) (works_err (g.P.Pages.is_tied c.args.pages.now → AppendsNone field old c.args.index.now.working found)
          (g.P.Pages.is_tied c.loop-place.pages → HoldsNoIndex c.loop-place.index.field mid c.loop-place.index.working) c.in_err-put.field-0.0
          (g.P.Pages.store c.args.pages.now) (g.P.Pages.store c.loop-place.pages) (g.P.Pages.store c.put.new.pages) c.loop-place.invariant.works c.loop-place.invariant.nothing
          (λ none tied. appends_missing field old c.args.index.now.working found mid c.loop-place.index.working c.loop-place.place c.get.result.now c.get.ensures (c.loop-place.invariant.appended tied)
          (subst (λ (f : Field). HoldsNoIndex f mid c.loop-place.index.working) c.loop-place.invariant.field (none (g.met.P.Pages.keeps_tied c.args.pages.now c.loop-place.pages c.loop-place.invariant.keeps tied))))
          c.in_err-put.ensures.leaves.works);
    }

pub loop-place-preserved : goal.loop-place-preserved
loop-place-preserved g c =
    let old = (g.P.Pages.store c.args.pages.now).map in
    let mid = (g.P.Pages.store c.loop-place.pages).map in
    let new = (g.P.Pages.store c.put.new.pages).map in
    let field = c.args.index.now.field in
    record {
      keeps = g.met.P.Pages.keeps_trans c.args.pages.now c.loop-place.pages c.put.new.pages c.loop-place.invariant.keeps c.in_ok-put.ensures.leaves.keeps;
      works = Works-trans (g.P.Pages.store c.args.pages.now) (g.P.Pages.store c.loop-place.pages) (g.P.Pages.store c.put.new.pages) c.loop-place.invariant.works c.in_ok-put.ensures.leaves.works.works;
      nothing = CountsNothing-trans (g.P.Pages.store c.args.pages.now) (g.P.Pages.store c.loop-place.pages) (g.P.Pages.store c.put.new.pages) c.loop-place.invariant.nothing c.in_ok-put.ensures.leaves.works.ends;
      field = c.in_ok-put.ensures.index.field ∙ c.loop-place.invariant.field;
      committed = c.in_ok-put.ensures.index.committed ∙ c.loop-place.invariant.committed;
      appended = λ tied. appends_next field old c.args.index.now.working (listed c.args.cells.now) mid c.loop-place.index.working c.loop-place.place c.get.result.now c.get.ensures (c.loop-place.invariant.appended tied) new c.put.new.self.working
          (subst (λ (f : Field). ChangesIndex f mid new c.loop-place.index.working c.put.new.self.working (with_cell c.get.result.now)) c.loop-place.invariant.field
          (c.in_ok-put.ensures.put (g.met.P.Pages.keeps_tied c.args.pages.now c.loop-place.pages c.loop-place.invariant.keeps tied)));
    }

pub returns-clause-appended : goal.returns-clause-appended
returns-clause-appended g c = λ tied.
    let old = (g.P.Pages.store c.args.pages.now).map in
    let new = (g.P.Pages.store c.loop-place.pages).map in
    appends_all c.args.index.now.field old c.args.index.now.working (listed c.args.cells.now) new c.loop-place.index.working c.loop-place.place (omega arith) (c.loop-place.invariant.appended tied)
