-- The only one left is told; else its entry is written.
use Rattle.std.proofs.Common.{Err, [], ◌∷◌, ap, ◌∙◌, rules}
use Rattle.std.proofs.lemmas.Result.{err_from_is_err_and}
use Rattle.rs_tree.specs.Form.{Form, joined}
use Rattle.rs_tree.specs.Forms.{form_in}
use Rattle.rs_page_owners.proofs.Working.{works_err}
use Rattle.rs_tree_remove.specs.Finishing.{CantRenew, NoneGaveWay}
use Rattle.rs_tree_remove.proofs.Written.{renewed, renewed_one, cant_renew-none}
use Rattle.rs_tree_remove.proofs.finishing.renew_entry.Goals as goal

pub returns-then-count-removed-clause-finishes : goal.returns-then-count-removed-clause-finishes
returns-then-count-removed-clause-finishes g c = λ tied.
    let form : Form = form_in g.S.Summary c.args.layout in
    renewed_one form (g.P.Pages.store c.args.pages.now).map c.args.inner.number c.args.page.now.bytes c.args.inner.count c.args.stretch.at c.args.stretch.removed c.args.top c.requires.inside c.requires.few c.if-count-removed.true

pub returns-in_err-renew-clause-works : goal.returns-in_err-renew-clause-works
returns-in_err-renew-clause-works g c =
    let form : Form = form_in g.S.Summary c.args.layout in
    let p = err_from_is_err_and c.from_residual.result c.from_residual.ensures.1 in
    works_err {T = Unit {0}} (g.P.Pages.is_tied c.args.pages.now → CantRenew (g.P.Pages.store c.args.pages.now).map c.args.inner.number c.args.top c.args.layout)
    (g.P.Pages.is_tied c.args.pages.now → NoneGaveWay form (g.P.Pages.store c.args.pages.now).map c.args.inner.number c.args.page.now.bytes c.args.inner.count c.args.stretch.at c.args.stretch.removed (c.args.top ∷ []))
    c.from_residual.result c.in_err-renew.field-0.0 (g.P.Pages.store c.args.pages.now) (g.P.Pages.store c.renew.new.pages)
    (λ none tied. cant_renew-none (λ bytes cells. g.S.Summary.says bytes (joined g.S.Summary.unit g.S.Summary.join g.S.Summary.of cells)) c.args.layout (g.P.Pages.store c.args.pages.now).map c.args.inner.number c.args.page.now.bytes c.args.inner.count c.args.stretch.at c.args.stretch.removed c.args.top (none tied))
    (p.1 ∙ ap Err p.2) c.in_err-renew.ensures.works

pub returns-clause-finishes : goal.returns-clause-finishes
returns-clause-finishes g c = λ tied.
    let form : Form = form_in g.S.Summary c.args.layout in
    renewed form (g.P.Pages.store c.args.pages.now).map c.args.inner.number c.args.page.now.bytes c.args.inner.count (g.P.Pages.store c.renew.new.pages).map c.args.stretch.at c.args.stretch.removed c.args.top c.requires.inside (λ e. search rules) (c.in_ok-renew.ensures.renews tied)
