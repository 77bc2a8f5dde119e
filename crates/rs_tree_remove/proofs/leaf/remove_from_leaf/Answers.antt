-- The cell is at its place or is not there; the last one goes with the page.
use Rattle.std.proofs.Common.{◌≡◌, ℕ, Err, Some, slice_get, refl, ap, ◌∙◌, subst, arith, rules}
use Rattle.std.proofs.lemmas.Result.{err_from_is_err_and}
use Rattle.rs_pages.specs.PageMap.{HasNoFit}
use Rattle.rs_records.specs.Records.{records, keys, IsPlace}
use Rattle.rs_records.proofs.RecordLists.{length-keys}
use Rattle.rs_tree.specs.Form.{Form, joined}
use Rattle.rs_tree.proofs.Lists.{has_inside}
use Rattle.rs_tree.specs.Forms.{form_in}
use Rattle.rs_page_owners.proofs.Working.{NotReleased, released-works, works_err}
use Rattle.rs_tree_remove.specs.Leaving.{HasNoOwnPart}
use Rattle.rs_tree_remove.proofs.Leaves.{leaf_missing, leaf_gone, leaf_kept}
use Rattle.rs_tree_remove.proofs.Refusing.{part_lent, lent-released, lent-fits}
use Rattle.rs_tree_remove.proofs.leaf.remove_from_leaf.Goals as goal

pub returns-then-not-has_key-clause-removed : goal.returns-then-not-has_key-clause-removed
returns-then-not-has_key-clause-removed g c = λ tied lent.
    leaf_missing (λ bytes cells. g.S.Summary.says bytes (joined g.S.Summary.unit g.S.Summary.join g.S.Summary.of cells)) c.args.layout (g.P.Pages.store c.args.pages.now).map c.args.number
    c.args.page.now.bytes c.args.cell.now c.args.count c.place-at.result lent c.requires.node
    (subst (λ b. IsPlace (keys 0 (records c.args.count c.args.layout.width b)) c.args.cell.now c.place-at.result) c.content-bytes.ensures.bytes c.place-at.ensures)
    (subst (λ b. slice_get (keys 0 (records c.args.count c.args.layout.width b)) c.place-at.result ≡ Some c.args.cell.now → ⊥) c.content-bytes.ensures.bytes (search rules))

pub returns-in_err-release-clause-works : goal.returns-in_err-release-clause-works
returns-in_err-release-clause-works g c =
    let form : Form = form_in g.S.Summary c.args.layout in
    let p = err_from_is_err_and c.from_residual.result c.from_residual.ensures.1 in
    works_err {T = Unit {0}} (NotReleased (g.P.Pages.is_tied c.args.pages.now) c.args.number (g.P.Pages.store c.args.pages.now))
    (g.P.Pages.is_tied c.args.pages.now → (g.P.Pages.store c.args.pages.now).map.page c.args.number ≡ Some c.args.page.now.bytes → (levels : ℕ) → HasNoOwnPart form (g.P.Pages.store c.args.pages.now).map c.args.number levels)
    c.from_residual.result c.in_err-release.field-0.0 (g.P.Pages.store c.args.pages.now) (g.P.Pages.store c.release.new.self)
    (λ refused tied lent levels. record {
      none = λ height shape others part high up shares.
          lent-released (g.P.Pages.is_tied c.args.pages.now) (g.P.Pages.store c.args.pages.now) c.args.number _ tied (part_lent form (g.P.Pages.store c.args.pages.now).map c.args.number height shape part) shares refused;
    })
    (p.1 ∙ ap Err p.2)
    (released-works (g.P.Pages.is_tied c.args.pages.now) c.args.number (Err c.in_err-release.field-0.0) (g.P.Pages.store c.args.pages.now) (g.P.Pages.store c.release.new.self)
    c.in_err-release.ensures.releases c.in_err-release.ensures.rests c.in_err-release.ensures.refused)

pub returns-then-count-eq1-clause-removed : goal.returns-then-count-eq1-clause-removed
returns-then-count-eq1-clause-removed g c = λ tied lent.
    leaf_gone (λ bytes cells. g.S.Summary.says bytes (joined g.S.Summary.unit g.S.Summary.join g.S.Summary.of cells)) c.args.layout (g.P.Pages.store c.args.pages.now).map c.args.number
    c.args.page.now.bytes c.args.cell.now c.args.count c.place-at.result lent c.requires.node
    (subst (λ b. slice_get (keys 0 (records c.args.count c.args.layout.width b)) c.place-at.result ≡ Some c.args.cell.now) c.content-bytes.ensures.bytes (search rules))
    (g.P.Pages.is_tied c.args.pages.now) (g.P.Pages.store c.args.pages.now) (g.P.Pages.store c.release.new.self) refl tied c.if-count-eq1.true c.in_ok-release.ensures.releases

pub edit_page-requires-clause-part : goal.edit_page-requires-clause-part
edit_page-requires-clause-part g c =
    let has : slice_get (keys 0 (records c.args.count c.args.layout.width c.content-bytes.result.now)) c.place-at.result ≡ Some c.args.cell.now = search rules in
    omega (arith, has_inside (keys 0 (records c.args.count c.args.layout.width c.content-bytes.result.now)) c.place-at.result c.args.cell.now has, length-keys 0 c.args.count c.args.layout.width c.content-bytes.result.now)

pub returns-in_err-edit_page-clause-works : goal.returns-in_err-edit_page-clause-works
returns-in_err-edit_page-clause-works g c =
    let form : Form = form_in g.S.Summary c.args.layout in
    let p = err_from_is_err_and c.from_residual-in_err-edit_page.result c.from_residual-in_err-edit_page.ensures.1 in
    works_err {T = Unit {0}} (g.P.Pages.is_tied c.args.pages.now → HasNoFit (g.P.Pages.store c.args.pages.now).map c.args.number)
    (g.P.Pages.is_tied c.args.pages.now → (g.P.Pages.store c.args.pages.now).map.page c.args.number ≡ Some c.args.page.now.bytes → (levels : ℕ) → HasNoOwnPart form (g.P.Pages.store c.args.pages.now).map c.args.number levels)
    c.from_residual-in_err-edit_page.result c.in_err-edit_page.field-0.0 (g.P.Pages.store c.args.pages.now) (g.P.Pages.store c.edit_page.new.pages)
    (λ none tied lent levels. record {
      none = λ height shape others part high up shares.
          lent-fits (g.P.Pages.store c.args.pages.now).map c.args.number (part_lent form (g.P.Pages.store c.args.pages.now).map c.args.number height shape part) (none tied);
    })
    (p.1 ∙ ap Err p.2) c.in_err-edit_page.ensures.works

pub returns-clause-removed : goal.returns-clause-removed
returns-clause-removed g c = λ tied lent.
    leaf_kept (λ bytes cells. g.S.Summary.says bytes (joined g.S.Summary.unit g.S.Summary.join g.S.Summary.of cells)) c.args.layout (g.P.Pages.store c.args.pages.now).map c.args.number
    c.args.page.now.bytes c.args.cell.now c.args.count c.place-at.result lent c.requires.node
    (subst (λ b. slice_get (keys 0 (records c.args.count c.args.layout.width b)) c.place-at.result ≡ Some c.args.cell.now) c.content-bytes.ensures.bytes (search rules))
    (g.P.Pages.store c.edit_page.new.pages).map _ (λ one. search rules) (c.in_ok-edit_page.ensures.edited tied)
