-- What the search found comes after the entries that are there.
use Rattle.std.proofs.Common.{ℕ, Ok, Err, inl, inr, sym, subst}
use Rattle.std.proofs.lemmas.Result.{err_from_is_err_and}
use Rattle.rs_attr.specs.Inner.{AppendsNone, EntersNone}
use Rattle.rs_attr.proofs.Parts.{enters_all, enters_missing, enters_no_tree}
use Rattle.rs_interval.specs.Finding.{event_form}
use Rattle.rs_records.specs.Listed.{listed}
use Rattle.rs_tree.specs.Tree.{IsTree}
use Rattle.rs_page_owners.proofs.Working.{ReadRefusal, rests-work, works_err, works_then}
use Rattle.rs_cell_versions.proofs.Looks.{on_both}
use Rattle.rs_attr.proofs.defining.enter.Goals as goal

pub returns-in_err-part-clause-leaves : goal.returns-in_err-part-clause-leaves
returns-in_err-part-clause-leaves g c =
    let old = (g.P.Pages.store c.args.pages.now).map in
    let field = c.args.index.now.field in
    let why = c.in_err-part.field-0.0 in
    let none = g.P.Pages.is_tied c.args.pages.now → EntersNone field old c.args.cells.now.root c.args.index.now.working c.args.low.now in
    let p = err_from_is_err_and c.from_residual.result c.from_residual.ensures.1 in
    let cause : ReadRefusal none why = elim c.in_err-part.ensures.refused.cause [
      | inl memory ↦ inl memory
      | inr (inl disk) ↦ inr (inl disk)
      | inr (inr wrong) ↦ inr (inr (wrong.0, λ tied. enters_no_tree field old c.args.cells.now.root c.args.index.now.working c.args.low.now c.args.cells.now.width c.requires.width (wrong.1 tied)))
    ] in
    record {
      keeps = c.in_err-part.ensures.rests.below;
      works = works_err none none c.from_residual.result why (g.P.Pages.store c.args.pages.now) (g.P.Pages.store c.range.new.pages) (λ broken. broken) (cc (p.1, p.2))
          (rests-work g.P.Pages.is_tied g.P.Pages.store g.P.Pages.keeps none (Err why) c.args.pages.now c.range.new.pages c.in_err-part.ensures.rests cause);
    }

pub returns-clause-leaves : goal.returns-clause-leaves
returns-clause-leaves g c =
    let old = (g.P.Pages.store c.args.pages.now).map in
    let mid = (g.P.Pages.store c.range.new.pages).map in
    let field = c.args.index.now.field in
    let root = c.args.index.now.working in
    let found = listed c.in_ok-part.part in
    let none = g.P.Pages.is_tied c.args.pages.now → EntersNone field old c.args.cells.now.root root c.args.low.now in
    record {
      keeps = g.met.P.Pages.keeps_trans c.args.pages.now c.range.new.pages c.append.new.pages c.in_ok-part.ensures.rests.below c.append.ensures.leaves.keeps;
      works = works_then none none (g.P.Pages.is_tied c.range.new.pages → AppendsNone field mid root found) c.in_ok-part.part c.append.result (g.P.Pages.store c.args.pages.now) (g.P.Pages.store c.range.new.pages) (g.P.Pages.store c.append.new.pages)
          (λ missing tied. enters_missing field old mid c.args.cells.now.root root c.args.low.now c.args.high.now found (c.in_ok-part.ensures.rests.rests.keeps.pages tied) c.requires.order
          (λ cells used tree. c.in_ok-part.ensures.found tied cells used (subst (λ (w : ℕ). IsTree (event_form w) old c.args.cells.now.root cells used) (sym c.requires.width) tree))
          (missing (g.met.P.Pages.keeps_tied c.args.pages.now c.range.new.pages c.in_ok-part.ensures.rests.below tied)))
          (rests-work g.P.Pages.is_tied g.P.Pages.store g.P.Pages.keeps none (Ok c.in_ok-part.part) c.args.pages.now c.range.new.pages c.in_ok-part.ensures.rests tt)
          c.append.ensures.leaves.works;
    }

pub returns-clause-entered : goal.returns-clause-entered
returns-clause-entered g c = λ tied.
    let old = (g.P.Pages.store c.args.pages.now).map in
    let mid = (g.P.Pages.store c.range.new.pages).map in
    let new = (g.P.Pages.store c.append.new.pages).map in
    let field = c.args.index.now.field in
    let found = listed c.in_ok-part.part in
    let so = c.append.ensures.appended (g.met.P.Pages.keeps_tied c.args.pages.now c.range.new.pages c.in_ok-part.ensures.rests.below tied) in
    on_both c.append.result so so
    (λ appends _. enters_all field old mid c.args.cells.now.root c.args.index.now.working c.args.low.now c.args.high.now found (c.in_ok-part.ensures.rests.rests.keeps.pages tied) c.requires.order
    (λ cells used tree. c.in_ok-part.ensures.found tied cells used (subst (λ (w : ℕ). IsTree (event_form w) old c.args.cells.now.root cells used) (sym c.requires.width) tree)) new c.append.new.index.working appends)
