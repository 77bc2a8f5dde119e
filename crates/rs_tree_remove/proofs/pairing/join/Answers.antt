-- The neighbour is written, then the page goes, then the page above is written.
use Rattle.std.proofs.Common.{◌*◌, Ok, Err, [], ◌∷◌, ap, ◌∙◌, subst, arith}
use Rattle.std.proofs.lemmas.Result.{err_from_is_err_and}
use Rattle.rs_tree.specs.Form.{Form}
use Rattle.rs_tree.specs.Forms.{form_in}
use Rattle.rs_page_owners.proofs.Working.{NotReleased, released-works, works_err, works_then}
use Rattle.rs_tree_remove.specs.Finishing.{Finishes, NoneGaveWay}
use Rattle.rs_tree_remove.specs.Mending.{NonePairs}
use Rattle.rs_tree_remove.proofs.Joining.{joins, no_joining, no_release, no_writing, if_ok}
use Rattle.rs_tree_remove.proofs.pairing.join.Goals as goal

pub renew_entry-requires-clause-room : goal.renew_entry-requires-clause-room
renew_entry-requires-clause-room g c = omega (arith, ap (λ w. 3 * w) c.entry_width-fits.ensures.width, c.entry_width-fits.ensures.fits)

pub returns-in_err-_kept-clause-works : goal.returns-in_err-_kept-clause-works
returns-in_err-_kept-clause-works g c =
    let form : Form = form_in g.S.Summary c.args.layout in
    let p = err_from_is_err_and c.from_residual.result c.from_residual.ensures.1 in
    works_err (g.P.Pages.is_tied c.args.pages.now → NoneGaveWay form (g.P.Pages.store c.args.pages.now).map c.args.pair.other c.args.near.now.bytes 2 c.end-place.result 0 (c.args.pair.only ∷ [])) (g.P.Pages.is_tied c.args.pages.now → NonePairs form (g.P.Pages.store c.args.pages.now).map c.args.inner.number c.args.page.now.bytes c.args.inner.count c.args.pair.at c.args.pair.is_first c.args.pair.lonely c.args.pair.only c.args.pair.other c.args.near.now.bytes 2)
    c.from_residual.result c.in_err-_kept.field-0.0 (g.P.Pages.store c.args.pages.now) (g.P.Pages.store c.renew_entry.new.pages)
    (λ none tied. no_joining form (g.P.Pages.store c.args.pages.now).map c.args.inner.number c.args.page.now.bytes c.args.inner.count c.args.pair.at c.args.pair.is_first c.args.pair.lonely c.args.pair.only c.args.pair.other c.args.near.now.bytes c.end-place.result c.end-place.ensures (none tied))
    (p.1 ∙ ap Err p.2) c.in_err-_kept.ensures.works

pub returns-in_err-release-clause-works : goal.returns-in_err-release-clause-works
returns-in_err-release-clause-works g c =
    let form : Form = form_in g.S.Summary c.args.layout in
    let p = err_from_is_err_and c.from_residual-in_err-release.result c.from_residual-in_err-release.ensures.1 in
    works_err {T = Unit {0}} (g.P.Pages.is_tied c.args.pages.now → NonePairs form (g.P.Pages.store c.args.pages.now).map c.args.inner.number c.args.page.now.bytes c.args.inner.count c.args.pair.at c.args.pair.is_first c.args.pair.lonely c.args.pair.only c.args.pair.other c.args.near.now.bytes 2) (g.P.Pages.is_tied c.args.pages.now → NonePairs form (g.P.Pages.store c.args.pages.now).map c.args.inner.number c.args.page.now.bytes c.args.inner.count c.args.pair.at c.args.pair.is_first c.args.pair.lonely c.args.pair.only c.args.pair.other c.args.near.now.bytes 2) c.from_residual-in_err-release.result c.in_err-release.field-0.0 (g.P.Pages.store c.args.pages.now) (g.P.Pages.store c.release.new.self) (λ none. none) (p.1 ∙ ap Err p.2)
    (works_then (g.P.Pages.is_tied c.args.pages.now → NoneGaveWay form (g.P.Pages.store c.args.pages.now).map c.args.pair.other c.args.near.now.bytes 2 c.end-place.result 0 (c.args.pair.only ∷ [])) (g.P.Pages.is_tied c.args.pages.now → NonePairs form (g.P.Pages.store c.args.pages.now).map c.args.inner.number c.args.page.now.bytes c.args.inner.count c.args.pair.at c.args.pair.is_first c.args.pair.lonely c.args.pair.only c.args.pair.other c.args.near.now.bytes 2)
    (NotReleased (g.P.Pages.is_tied c.renew_entry.new.pages) c.args.pair.lonely (g.P.Pages.store c.renew_entry.new.pages)) c.in_ok-_kept._kept (Err c.in_err-release.field-0.0) (g.P.Pages.store c.args.pages.now) (g.P.Pages.store c.renew_entry.new.pages) (g.P.Pages.store c.release.new.self)
    (λ refused tied. let later = g.met.P.Pages.keeps_tied c.args.pages.now c.renew_entry.new.pages c.in_ok-_kept.ensures.keeps tied in
    no_release form (g.P.Pages.store c.args.pages.now).map c.args.inner.number c.args.page.now.bytes c.args.inner.count c.args.pair.at c.args.pair.is_first c.args.pair.lonely c.args.pair.only c.args.pair.other c.args.near.now.bytes c.end-place.result c.end-place.ensures (g.P.Pages.is_tied c.renew_entry.new.pages) (g.P.Pages.store c.renew_entry.new.pages) later (subst (Finishes form (g.P.Pages.store c.args.pages.now).map (g.P.Pages.store c.renew_entry.new.pages).map c.args.pair.other c.args.near.now.bytes 2 c.end-place.result 0 (c.args.pair.only ∷ [])) (c.in_ok-_kept.ensures.kept (omega arith)) (c.in_ok-_kept.ensures.finishes tied)) refused)
    c.in_ok-_kept.ensures.works
    (released-works (g.P.Pages.is_tied c.renew_entry.new.pages) c.args.pair.lonely (Err c.in_err-release.field-0.0) (g.P.Pages.store c.renew_entry.new.pages) (g.P.Pages.store c.release.new.self) c.in_err-release.ensures.releases c.in_err-release.ensures.rests c.in_err-release.ensures.refused))

pub returns-clause-works : goal.returns-clause-works
returns-clause-works g c =
    let form : Form = form_in g.S.Summary c.args.layout in
    works_then {T = Unit {0}} (g.P.Pages.is_tied c.args.pages.now → NonePairs form (g.P.Pages.store c.args.pages.now).map c.args.inner.number c.args.page.now.bytes c.args.inner.count c.args.pair.at c.args.pair.is_first c.args.pair.lonely c.args.pair.only c.args.pair.other c.args.near.now.bytes 2) (g.P.Pages.is_tied c.args.pages.now → NonePairs form (g.P.Pages.store c.args.pages.now).map c.args.inner.number c.args.page.now.bytes c.args.inner.count c.args.pair.at c.args.pair.is_first c.args.pair.lonely c.args.pair.only c.args.pair.other c.args.near.now.bytes 2) (g.P.Pages.is_tied c.release.new.self → NoneGaveWay form (g.P.Pages.store c.release.new.self).map c.args.inner.number c.args.page.now.bytes c.args.inner.count c.args.pair.at 2 (c.args.pair.other ∷ []))
    tt c.renew_entry-2.result (g.P.Pages.store c.args.pages.now) (g.P.Pages.store c.release.new.self) (g.P.Pages.store c.renew_entry-2.new.pages)
    (λ none tied. let later = g.met.P.Pages.keeps_tied c.args.pages.now c.renew_entry.new.pages c.in_ok-_kept.ensures.keeps tied in let last = g.met.P.Pages.keeps_tied c.renew_entry.new.pages c.release.new.self c.in_ok-release.ensures.keeps later in
    no_writing form (g.P.Pages.store c.args.pages.now).map c.args.inner.number c.args.page.now.bytes c.args.inner.count c.args.pair.at c.args.pair.is_first c.args.pair.lonely c.args.pair.only c.args.pair.other c.args.near.now.bytes c.end-place.result c.end-place.ensures (g.P.Pages.is_tied c.renew_entry.new.pages) (g.P.Pages.store c.renew_entry.new.pages) (g.P.Pages.store c.release.new.self) later (subst (Finishes form (g.P.Pages.store c.args.pages.now).map (g.P.Pages.store c.renew_entry.new.pages).map c.args.pair.other c.args.near.now.bytes 2 c.end-place.result 0 (c.args.pair.only ∷ [])) (c.in_ok-_kept.ensures.kept (omega arith)) (c.in_ok-_kept.ensures.finishes tied)) c.in_ok-release.ensures.releases (none last))
    (works_then (g.P.Pages.is_tied c.args.pages.now → NoneGaveWay form (g.P.Pages.store c.args.pages.now).map c.args.pair.other c.args.near.now.bytes 2 c.end-place.result 0 (c.args.pair.only ∷ [])) (g.P.Pages.is_tied c.args.pages.now → NonePairs form (g.P.Pages.store c.args.pages.now).map c.args.inner.number c.args.page.now.bytes c.args.inner.count c.args.pair.at c.args.pair.is_first c.args.pair.lonely c.args.pair.only c.args.pair.other c.args.near.now.bytes 2)
    (NotReleased (g.P.Pages.is_tied c.renew_entry.new.pages) c.args.pair.lonely (g.P.Pages.store c.renew_entry.new.pages)) c.in_ok-_kept._kept (Ok tt) (g.P.Pages.store c.args.pages.now) (g.P.Pages.store c.renew_entry.new.pages) (g.P.Pages.store c.release.new.self)
    (λ refused tied. let later = g.met.P.Pages.keeps_tied c.args.pages.now c.renew_entry.new.pages c.in_ok-_kept.ensures.keeps tied in
    no_release form (g.P.Pages.store c.args.pages.now).map c.args.inner.number c.args.page.now.bytes c.args.inner.count c.args.pair.at c.args.pair.is_first c.args.pair.lonely c.args.pair.only c.args.pair.other c.args.near.now.bytes c.end-place.result c.end-place.ensures (g.P.Pages.is_tied c.renew_entry.new.pages) (g.P.Pages.store c.renew_entry.new.pages) later (subst (Finishes form (g.P.Pages.store c.args.pages.now).map (g.P.Pages.store c.renew_entry.new.pages).map c.args.pair.other c.args.near.now.bytes 2 c.end-place.result 0 (c.args.pair.only ∷ [])) (c.in_ok-_kept.ensures.kept (omega arith)) (c.in_ok-_kept.ensures.finishes tied)) refused)
    c.in_ok-_kept.ensures.works
    (released-works (g.P.Pages.is_tied c.renew_entry.new.pages) c.args.pair.lonely (Ok tt) (g.P.Pages.store c.renew_entry.new.pages) (g.P.Pages.store c.release.new.self) c.in_ok-release.ensures.releases c.in_ok-release.ensures.rests c.in_ok-release.ensures.refused))
    c.renew_entry-2.ensures.works

pub returns-clause-pairs : goal.returns-clause-pairs
returns-clause-pairs g c = λ tied.
    let form : Form = form_in g.S.Summary c.args.layout in
    let later = g.met.P.Pages.keeps_tied c.args.pages.now c.renew_entry.new.pages c.in_ok-_kept.ensures.keeps tied in let last = g.met.P.Pages.keeps_tied c.renew_entry.new.pages c.release.new.self c.in_ok-release.ensures.keeps later in
    if_ok c.renew_entry-2.result (c.renew_entry-2.ensures.finishes last) (λ answer finishes.
    joins form (g.P.Pages.store c.args.pages.now).map c.args.inner.number c.args.page.now.bytes c.args.inner.count c.args.pair.at c.args.pair.is_first c.args.pair.lonely c.args.pair.only c.args.pair.other c.args.near.now.bytes c.end-place.result c.end-place.ensures (g.P.Pages.is_tied c.renew_entry.new.pages) (g.P.Pages.store c.renew_entry.new.pages) (g.P.Pages.store c.release.new.self) (g.P.Pages.store c.renew_entry-2.new.pages).map answer later (subst (Finishes form (g.P.Pages.store c.args.pages.now).map (g.P.Pages.store c.renew_entry.new.pages).map c.args.pair.other c.args.near.now.bytes 2 c.end-place.result 0 (c.args.pair.only ∷ [])) (c.in_ok-_kept.ensures.kept (omega arith)) (c.in_ok-_kept.ensures.finishes tied)) c.in_ok-release.ensures.releases finishes)
