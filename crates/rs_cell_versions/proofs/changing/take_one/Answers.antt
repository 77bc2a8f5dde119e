-- The first of the dead is one of the cells.
use Rattle.std.proofs.Common.{Bool, [], ◌∷◌}
use Rattle.std.proofs.lemmas.Result.{err_from_is_err_and}
use Rattle.rs_tree.specs.Calls.{IsNotShared}
use Rattle.rs_tree.specs.Form.{Form, form_of}
use Rattle.rs_page_owners.proofs.Working.{CountsNothing-refl, Works-refl}
use Rattle.rs_page_owners.proofs.Following.{damaged_err, works_err}
use Rattle.rs_cell_versions.specs.Inner.{HoldsNoneFirst}
use Rattle.rs_cell_versions.proofs.Steps.{none_first, none_found, takes_one}
use Rattle.rs_cell_versions.proofs.changing.take_one.Goals as goal

pub returns-in_err-found-clause-works : goal.returns-in_err-found-clause-works
returns-in_err-found-clause-works g c =
    let form : Form = form_of g.S.Summary.says g.S.Summary.unit g.S.Summary.join g.S.Summary.of g.S.Summary.WIDTH c.args.tree.now.width in
    let old = (g.P.Pages.store c.args.pages.now).map in
    let root = c.args.tree.now.root in
    let cell = c.args.cell.now in
    let p = err_from_is_err_and c.from_residual.result c.from_residual.ensures.1 in
    rw (p.1, p.2) (works_err {U = Bool} (g.P.Pages.is_tied c.args.pages.now → HoldsNoneFirst form old root (cell ∷ [])) (g.P.Pages.is_tied c.args.pages.now → IsNotShared form old root) c.in_err-found.field-0.0
    (g.P.Pages.store c.args.pages.now) (g.P.Pages.store c.args.pages.now) (g.P.Pages.store c.remove.new.pages) (Works-refl (g.P.Pages.store c.args.pages.now)) (CountsNothing-refl (g.P.Pages.store c.args.pages.now))
    (λ none tied. none_first form old root (cell ∷ []) (none tied)) c.in_err-found.ensures.leaves.works)

pub returns-then-found-clause-taken : goal.returns-then-found-clause-taken
returns-then-found-clause-taken g c = λ tied.
    let form : Form = form_of g.S.Summary.says g.S.Summary.unit g.S.Summary.join g.S.Summary.of g.S.Summary.WIDTH c.args.tree.now.width in
    let old = (g.P.Pages.store c.args.pages.now).map in
    takes_one form old (g.P.Pages.store c.remove.new.pages).map c.args.tree.now.root c.remove.new.self.root c.args.cell.now (c.in_ok-found.ensures.removes tied).changes

pub returns-else-found-clause-works : goal.returns-else-found-clause-works
returns-else-found-clause-works g c =
    let form : Form = form_of g.S.Summary.says g.S.Summary.unit g.S.Summary.join g.S.Summary.of g.S.Summary.WIDTH c.args.tree.now.width in
    let old = (g.P.Pages.store c.args.pages.now).map in
    let root = c.args.tree.now.root in
    let cell = c.args.cell.now in
    damaged_err (g.P.Pages.is_tied c.args.pages.now → HoldsNoneFirst form old root (cell ∷ [])) (g.P.Pages.store c.args.pages.now) (g.P.Pages.store c.remove.new.pages)
    c.in_ok-found.ensures.leaves.works.works c.in_ok-found.ensures.leaves.works.ends
    (λ tied. none_found form old root cell c.in_ok-found.found c.if-found.false (c.in_ok-found.ensures.removes tied).tells.each)
