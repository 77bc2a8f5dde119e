-- The cell ends where it was there.
use Rattle.std.proofs.Common.{ℕ, Bool, length, subst, sym, ap, ◌∙◌, arith}
use Rattle.std.proofs.lemmas.Result.{err_from_is_err_and}
use Rattle.rs_btree.proofs.Exchanging.{none_before}
use Rattle.rs_tree.specs.Calls.{Changes, IsNotShared}
use Rattle.rs_tree.specs.Cells.{with_cell}
use Rattle.rs_tree.specs.Form.{Form, form_of}
use Rattle.rs_page_owners.proofs.Following.{works_err}
use Rattle.rs_cell_versions.proofs.Ending.{length-ended}
use Rattle.rs_cell_versions.proofs.Steps.{TellsNew, ends_gone, ends_last, ends_missing}
use Rattle.rs_cell_versions.proofs.changing.end.Goals as goal

pub returns-then-not-found-clause-ends : goal.returns-then-not-found-clause-ends
returns-then-not-found-clause-ends g c = λ tied.
    let form : Form = form_of g.S.Summary.says g.S.Summary.unit g.S.Summary.join g.S.Summary.of g.S.Summary.WIDTH c.args.tree.now.width in
    let old = (g.P.Pages.store c.args.pages.now).map in
    let removes = c.in_ok-found.ensures.removes tied in
    record {
      ends = ends_missing form old (g.P.Pages.store c.remove.new.pages).map c.args.tree.now.root c.remove.new.self.root c.args.cell.now c.requires.living c.args.living c.args.version c.in_ok-found.found c.if-not-found.true
          removes.changes removes.tells.each;
      tells = removes.tells.each;
    }

pub returns-then-version-born_of-clause-ends : goal.returns-then-version-born_of-clause-ends
returns-then-version-born_of-clause-ends g c = λ tied.
    let form : Form = form_of g.S.Summary.says g.S.Summary.unit g.S.Summary.join g.S.Summary.of g.S.Summary.WIDTH c.args.tree.now.width in
    let old = (g.P.Pages.store c.args.pages.now).map in
    let removes = c.in_ok-found.ensures.removes tied in
    record {
      ends = ends_gone form old (g.P.Pages.store c.remove.new.pages).map c.args.tree.now.root c.remove.new.self.root c.args.cell.now c.requires.living c.args.living c.args.version c.saturating_sub-living.result
          c.in_ok-found.found c.if-not-found.false (omega (arith, c.if-version-born_of.true, c.born_of.ensures)) c.saturating_sub-living.ensures removes.changes removes.tells.each;
      tells = removes.tells.each;
    }

pub insert-requires-clause-cell : goal.insert-requires-clause-cell
insert-requires-clause-cell g c =
    ap length c.requires.last ∙ length-ended c.args.version c.args.cell.now (omega (arith, c.requires.width, c.requires.fits.some)) ∙ c.requires.width ∙ sym c.in_ok-found.ensures.tree.width

pub returns-in_err-new-clause-works : goal.returns-in_err-new-clause-works
returns-in_err-new-clause-works g c =
    let form : Form = form_of g.S.Summary.says g.S.Summary.unit g.S.Summary.join g.S.Summary.of g.S.Summary.WIDTH c.args.tree.now.width in
    let old = (g.P.Pages.store c.args.pages.now).map in
    let mid = (g.P.Pages.store c.remove.new.pages).map in
    let root = c.args.tree.now.root in
    let below = c.remove.new.self.root in
    let p = err_from_is_err_and c.from_residual-in_err-new.result c.from_residual-in_err-new.ensures.1 in
    rw (p.1, p.2) (works_err {U = Bool} (g.P.Pages.is_tied c.args.pages.now → IsNotShared form old root)
    (g.P.Pages.is_tied c.remove.new.pages → IsNotShared (form_of g.S.Summary.says g.S.Summary.unit g.S.Summary.join g.S.Summary.of g.S.Summary.WIDTH c.remove.new.self.width) mid below) c.in_err-new.field-0.0
    (g.P.Pages.store c.args.pages.now) (g.P.Pages.store c.remove.new.pages) (g.P.Pages.store c.insert.new.pages) c.in_ok-found.ensures.leaves.works.works c.in_ok-found.ensures.leaves.works.ends
    (λ none tied.
    let later = g.met.P.Pages.keeps_tied c.args.pages.now c.remove.new.pages c.in_ok-found.ensures.leaves.keeps tied in
    none_before form old mid root below c.args.cell.now (c.in_ok-found.ensures.removes tied).changes
    (subst (λ (w : ℕ). IsNotShared (form_of g.S.Summary.says g.S.Summary.unit g.S.Summary.join g.S.Summary.of g.S.Summary.WIDTH w) mid below) c.in_ok-found.ensures.tree.width (none later)))
    c.in_err-new.ensures.leaves.works)

pub returns-clause-ends : goal.returns-clause-ends
returns-clause-ends g c = λ tied.
    let form : Form = form_of g.S.Summary.says g.S.Summary.unit g.S.Summary.join g.S.Summary.of g.S.Summary.WIDTH c.args.tree.now.width in
    let old = (g.P.Pages.store c.args.pages.now).map in
    let mid = (g.P.Pages.store c.remove.new.pages).map in
    let new = (g.P.Pages.store c.insert.new.pages).map in
    let below = c.remove.new.self.root in
    let later = g.met.P.Pages.keeps_tied c.args.pages.now c.remove.new.pages c.in_ok-found.ensures.leaves.keeps tied in
    let removes = c.in_ok-found.ensures.removes tied in
    record {
      ends = ends_last form old mid new c.args.tree.now.root below c.insert.new.self.root c.args.cell.now c.args.last.now c.requires.living c.args.living c.args.version c.saturating_sub-living.result
          c.in_ok-found.found c.in_ok-new.new c.if-not-found.false (omega (arith, c.if-version-born_of.false, c.born_of.ensures)) c.requires.version c.saturating_sub-living.ensures c.requires.last
          removes.changes removes.tells.each
          (subst (λ (w : ℕ). Changes (form_of g.S.Summary.says g.S.Summary.unit g.S.Summary.join g.S.Summary.of g.S.Summary.WIDTH w) mid new below c.insert.new.self.root (with_cell c.args.last.now)) c.in_ok-found.ensures.tree.width (c.in_ok-new.ensures.inserts later).changes)
          (subst (λ (w : ℕ). TellsNew (form_of g.S.Summary.says g.S.Summary.unit g.S.Summary.join g.S.Summary.of g.S.Summary.WIDTH w) mid below c.args.last.now c.in_ok-new.new) c.in_ok-found.ensures.tree.width (c.in_ok-new.ensures.inserts later).found);
      tells = removes.tells.each;
    }
