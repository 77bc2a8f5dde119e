-- The first entry is written anew, then the second.
use Rattle.std.proofs.Common.{Err, [], ◌∷◌, ap, ◌∙◌}
use Rattle.std.proofs.lemmas.Result.{err_from_is_err_and}
use Rattle.rs_tree.specs.Form.{Form, joined}
use Rattle.rs_tree.proofs.Loading.{on_ok}
use Rattle.rs_tree.specs.Forms.{form_in}
use Rattle.rs_page_owners.proofs.Working.{works_err, works_then}
use Rattle.rs_tree_remove.specs.Finishing.{CantRenew, NoneGaveWay, Finishes}
use Rattle.rs_tree_remove.specs.declared.answer.Removed.TheVariants.{Kept}
use Rattle.rs_tree_remove.proofs.Written.{renewed_two, cant_renew-first, cant_renew-second}
use Rattle.rs_tree_remove.proofs.finishing.renew_two.Goals as goal

pub returns-in_err-renew-clause-works : goal.returns-in_err-renew-clause-works
returns-in_err-renew-clause-works g c =
    let form : Form = form_in g.S.Summary c.args.layout in
    let p = err_from_is_err_and c.from_residual.result c.from_residual.ensures.1 in
    works_err {T = Unit {0}} (g.P.Pages.is_tied c.args.pages.now → CantRenew (g.P.Pages.store c.args.pages.now).map c.args.inner.number c.args.tops.first c.args.layout)
    (g.P.Pages.is_tied c.args.pages.now → NoneGaveWay form (g.P.Pages.store c.args.pages.now).map c.args.inner.number c.args.page.now.bytes c.args.inner.count c.args.at 2 (c.args.tops.first ∷ c.args.tops.second ∷ []))
    c.from_residual.result c.in_err-renew.field-0.0 (g.P.Pages.store c.args.pages.now) (g.P.Pages.store c.renew.new.pages)
    (λ none tied. cant_renew-first (λ bytes cells. g.S.Summary.says bytes (joined g.S.Summary.unit g.S.Summary.join g.S.Summary.of cells)) c.args.layout (g.P.Pages.store c.args.pages.now).map c.args.inner.number c.args.page.now.bytes c.args.inner.count c.args.at c.args.tops.first c.args.tops.second (none tied))
    (p.1 ∙ ap Err p.2) c.in_err-renew.ensures.works

pub returns-clause-works : goal.returns-clause-works
returns-clause-works g c =
    let form : Form = form_in g.S.Summary c.args.layout in
    works_then {T = Unit {0}} (g.P.Pages.is_tied c.args.pages.now → CantRenew (g.P.Pages.store c.args.pages.now).map c.args.inner.number c.args.tops.first c.args.layout)
    (g.P.Pages.is_tied c.args.pages.now → NoneGaveWay form (g.P.Pages.store c.args.pages.now).map c.args.inner.number c.args.page.now.bytes c.args.inner.count c.args.at 2 (c.args.tops.first ∷ c.args.tops.second ∷ []))
    (g.P.Pages.is_tied c.renew.new.pages → CantRenew (g.P.Pages.store c.renew.new.pages).map c.args.inner.number c.args.tops.second c.args.layout) tt c.renew-2.result
    (g.P.Pages.store c.args.pages.now) (g.P.Pages.store c.renew.new.pages) (g.P.Pages.store c.renew-2.new.pages)
    (λ cant tied. let later = g.met.P.Pages.keeps_tied c.args.pages.now c.renew.new.pages c.in_ok-renew.ensures.keeps tied in
    cant_renew-second (λ bytes cells. g.S.Summary.says bytes (joined g.S.Summary.unit g.S.Summary.join g.S.Summary.of cells)) c.args.layout (g.P.Pages.store c.args.pages.now).map (g.P.Pages.store c.renew.new.pages).map c.args.inner.number c.args.page.now.bytes c.args.inner.count c.args.at c.args.tops.first c.args.tops.second c.requires.inside (c.in_ok-renew.ensures.renews tied) (cant later))
    c.in_ok-renew.ensures.works c.renew-2.ensures.works

pub returns-clause-finishes : goal.returns-clause-finishes
returns-clause-finishes g c = λ tied.
    let form : Form = form_in g.S.Summary c.args.layout in
    let later = g.met.P.Pages.keeps_tied c.args.pages.now c.renew.new.pages c.in_ok-renew.ensures.keeps tied in
    on_ok {Q = Finishes form (g.P.Pages.store c.args.pages.now).map (g.P.Pages.store c.renew-2.new.pages).map c.args.inner.number c.args.page.now.bytes c.args.inner.count c.args.at 2 (c.args.tops.first ∷ c.args.tops.second ∷ []) Kept}
    c.renew-2.result (c.renew-2.ensures.renews later) (λ renews.
    renewed_two form (g.P.Pages.store c.args.pages.now).map (g.P.Pages.store c.renew.new.pages).map (g.P.Pages.store c.renew-2.new.pages).map c.args.inner.number c.args.page.now.bytes c.args.inner.count c.args.at c.args.tops.first c.args.tops.second c.requires.inside (c.in_ok-renew.ensures.renews tied) renews)
