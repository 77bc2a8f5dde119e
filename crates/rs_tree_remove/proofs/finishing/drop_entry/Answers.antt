-- Of two parts the other is told; else the entry goes.
use Rattle.std.proofs.Common.{◌≡◌, ◌≤◌, ◌-◌, ℕ, Err, [], refl, sym, ap, ◌∙◌, subst, arith, rules}
use Rattle.std.proofs.lemmas.Result.{err_from_is_err_and}
use Rattle.rs_pages.specs.PageMap.{HasNoFit}
use Rattle.rs_tree.specs.Content.{content}
use Rattle.rs_tree.specs.Form.{Form, joined}
use Rattle.rs_tree.specs.Layouts.{entry_bytes}
use Rattle.rs_tree.proofs.Entering.{entry_there}
use Rattle.rs_tree.specs.Forms.{form_in}
use Rattle.rs_page_owners.proofs.Working.{works_err}
use Rattle.rs_tree_remove.specs.Finishing.{Finishes, NoneGaveWay}
use Rattle.rs_tree_remove.specs.declared.answer.Removed.TheVariants.{Single}
use Rattle.rs_tree_remove.proofs.Written.{dropped, dropped_one, no_fit-none}
use Rattle.rs_tree_remove.proofs.finishing.drop_entry.Goals as goal

pub returns-then-count-eq2-clause-finishes : goal.returns-then-count-eq2-clause-finishes
returns-then-count-eq2-clause-finishes g c = λ tied.
    let form : Form = form_in g.S.Summary c.args.layout in
    let there = entry_there c.args.inner.count c.entry_width-width.result (entry_bytes c.args.layout) c.content.result.now (content c.args.page.now.bytes) (1 - c.args.at) c.record_at-other.result.now
    c.entry_width-width.ensures.width c.content.ensures.bytes (c.record_at-other.ensures.one c.args.inner.count (omega arith)) in
    subst (λ n. Finishes form (g.P.Pages.store c.args.pages.now).map (g.P.Pages.store c.args.pages.now).map c.args.inner.number c.args.page.now.bytes c.args.inner.count c.args.at 1 [] (Single n)) (sym c.child.ensures)
    (dropped_one form (g.P.Pages.store c.args.pages.now).map c.args.inner.number c.args.page.now.bytes c.args.inner.count c.args.at (1 - c.args.at) c.record_at-other.result.now c.if-count-eq2.true c.requires.inside refl there)

pub returns-in_err-edit_page-clause-works : goal.returns-in_err-edit_page-clause-works
returns-in_err-edit_page-clause-works g c =
    let form : Form = form_in g.S.Summary c.args.layout in
    let p = err_from_is_err_and c.from_residual.result c.from_residual.ensures.1 in
    works_err {T = Unit {0}} (g.P.Pages.is_tied c.args.pages.now → HasNoFit (g.P.Pages.store c.args.pages.now).map c.args.inner.number)
    (g.P.Pages.is_tied c.args.pages.now → NoneGaveWay form (g.P.Pages.store c.args.pages.now).map c.args.inner.number c.args.page.now.bytes c.args.inner.count c.args.at 1 [])
    c.from_residual.result c.in_err-edit_page.field-0.0 (g.P.Pages.store c.args.pages.now) (g.P.Pages.store c.edit_page.new.pages)
    (λ none tied. no_fit-none (λ bytes cells. g.S.Summary.says bytes (joined g.S.Summary.unit g.S.Summary.join g.S.Summary.of cells)) c.args.layout (g.P.Pages.store c.args.pages.now).map c.args.inner.number c.args.page.now.bytes c.args.inner.count c.args.at 1 [] (none tied))
    (p.1 ∙ ap Err p.2) c.in_err-edit_page.ensures.works

pub returns-clause-finishes : goal.returns-clause-finishes
returns-clause-finishes g c = λ tied.
    let form : Form = form_in g.S.Summary c.args.layout in
    dropped form (g.P.Pages.store c.args.pages.now).map c.args.inner.number c.args.page.now.bytes c.args.inner.count (g.P.Pages.store c.edit_page.new.pages).map c.args.at c.entry_width-width.result _ c.entry_width-width.ensures.width c.requires.inside
    (three c.args.inner.count c.requires.two (search rules)) (c.in_ok-edit_page.ensures.edited tied) where
      three : (n : ℕ) → 2 ≤ n → (n ≡ 2 → ⊥) → 3 ≤ n
      three n two isnt = grind arith
