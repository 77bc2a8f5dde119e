-- The empty tree has no cell; from another root what is left of the part with that page at its top is the tree.
use Rattle.std.proofs.Common.{Err, refl, sym, ap, ◌∙◌, subst, arith}
use Rattle.std.proofs.lemmas.Bool.{false≢true}
use Rattle.std.proofs.lemmas.Result.{err_from_is_err_and}
use Rattle.rs_tree.specs.Calls.{Changes, IsNotShared}
use Rattle.rs_tree.specs.Cells.{without_cell}
use Rattle.rs_tree.specs.Form.{Form}
use Rattle.rs_tree.specs.Forms.{form_in}
use Rattle.rs_page_owners.proofs.Working.{NotReleased, released-works, works_err, works_then}
use Rattle.rs_tree_remove.specs.Leaving.{RemovesPart, HasNoOwnPart}
use Rattle.rs_tree_remove.specs.declared.answer.Removed.TheVariants.{Kept, Gone, Single}
use Rattle.rs_tree_remove.proofs.Whole.{empty_changes, empty_found, missing_changes, missing_of, kept_changes, gone_changes, single_changes, single_none, found_of, none_shared}
use Rattle.rs_tree_remove.proofs.roots.remove.Goals as goal

pub returns-then-number-eq0-clause-removes : goal.returns-then-number-eq0-clause-removes
returns-then-number-eq0-clause-removes g c = λ tied.
    let form : Form = form_in g.S.Summary c.args.layout in
    record {
      changes = empty_changes form (g.P.Pages.store c.args.pages.now).map c.args.root c.args.cell.now (omega (arith, c.number.ensures));
      tells = record { each = λ cells used others tree shares. (λ yes. absurd (false≢true yes), λ has. absurd (empty_found form (g.P.Pages.store c.args.pages.now).map c.args.root c.args.cell.now (omega (arith, c.number.ensures)) cells used tree has)) };
    }

pub returns-in_err-remove_below-clause-leaves : goal.returns-in_err-remove_below-clause-leaves
returns-in_err-remove_below-clause-leaves g c =
    let form : Form = form_in g.S.Summary c.args.layout in
    let p = err_from_is_err_and c.from_residual.result c.from_residual.ensures.1 in
    record {
      keeps = c.in_err-remove_below.ensures.keeps;
      works = works_err (g.P.Pages.is_tied c.args.pages.now → HasNoOwnPart form (g.P.Pages.store c.args.pages.now).map c.args.root 31) (g.P.Pages.is_tied c.args.pages.now → IsNotShared form (g.P.Pages.store c.args.pages.now).map c.args.root) c.from_residual.result c.in_err-remove_below.field-0.0 (g.P.Pages.store c.args.pages.now) (g.P.Pages.store c.remove_below.new.pages)
          (λ none tied. none_shared form (g.P.Pages.store c.args.pages.now).map c.args.root c.args.cell.now c.count-count.result (λ zero. omega (arith, c.number.ensures, zero)) c.count-count.ensures.count c.count-count.type_inv (none tied))
          (p.1 ∙ ap Err p.2) c.in_err-remove_below.ensures.works;
    }

pub returns-in_err-release-in-Single-clause-leaves : goal.returns-in_err-release-in-Single-clause-leaves
returns-in_err-release-in-Single-clause-leaves g c =
    let form : Form = form_in g.S.Summary c.args.layout in
    let p = err_from_is_err_and c.from_residual-in_err-release-in-Single.result c.from_residual-in_err-release-in-Single.ensures.1 in
    record {
      keeps = g.met.P.Pages.keeps_trans c.args.pages.now c.remove_below.new.pages c.release.new.self c.in_ok-remove_below.ensures.keeps c.in_err-release-in-Single.ensures.keeps;
      works = works_err {T = Unit {0}} (g.P.Pages.is_tied c.args.pages.now → IsNotShared form (g.P.Pages.store c.args.pages.now).map c.args.root) (g.P.Pages.is_tied c.args.pages.now → IsNotShared form (g.P.Pages.store c.args.pages.now).map c.args.root) c.from_residual-in_err-release-in-Single.result c.in_err-release-in-Single.field-0.0 (g.P.Pages.store c.args.pages.now) (g.P.Pages.store c.release.new.self) (λ none. none) (p.1 ∙ ap Err p.2)
          (works_then (g.P.Pages.is_tied c.args.pages.now → HasNoOwnPart form (g.P.Pages.store c.args.pages.now).map c.args.root 31) (g.P.Pages.is_tied c.args.pages.now → IsNotShared form (g.P.Pages.store c.args.pages.now).map c.args.root) (NotReleased (g.P.Pages.is_tied c.remove_below.new.pages) c.args.root (g.P.Pages.store c.remove_below.new.pages)) c.in_ok-remove_below.field-0 (Err c.in_err-release-in-Single.field-0.0) (g.P.Pages.store c.args.pages.now) (g.P.Pages.store c.remove_below.new.pages) (g.P.Pages.store c.release.new.self)
          (λ refused tied. let later = g.met.P.Pages.keeps_tied c.args.pages.now c.remove_below.new.pages c.in_ok-remove_below.ensures.keeps tied in
          single_none form (g.P.Pages.store c.args.pages.now).map c.args.root c.args.cell.now (λ zero. omega (arith, c.number.ensures, zero)) (g.P.Pages.is_tied c.remove_below.new.pages) (g.P.Pages.store c.remove_below.new.pages) c.in-Single.top later (subst (RemovesPart form (g.P.Pages.store c.args.pages.now).map (g.P.Pages.store c.remove_below.new.pages).map c.args.root c.args.cell.now) c.in-Single.is (c.in_ok-remove_below.ensures.removed tied)) refused)
          c.in_ok-remove_below.ensures.works
          (released-works (g.P.Pages.is_tied c.remove_below.new.pages) c.args.root (Err c.in_err-release-in-Single.field-0.0) (g.P.Pages.store c.remove_below.new.pages) (g.P.Pages.store c.release.new.self)
          c.in_err-release-in-Single.ensures.releases c.in_err-release-in-Single.ensures.rests c.in_err-release-in-Single.ensures.refused));
    }

pub returns-in-Missing-clause-removes : goal.returns-in-Missing-clause-removes
returns-in-Missing-clause-removes g c = λ tied.
    let form : Form = form_in g.S.Summary c.args.layout in
    record {
      changes = missing_changes form (g.P.Pages.store c.args.pages.now).map c.args.root c.args.cell.now (λ zero. omega (arith, c.number.ensures, zero)) (g.P.Pages.store c.remove_below.new.pages).map (subst (RemovesPart form (g.P.Pages.store c.args.pages.now).map (g.P.Pages.store c.remove_below.new.pages).map c.args.root c.args.cell.now) c.in-Missing.is (c.in_ok-remove_below.ensures.removed tied));
      tells = record { each = λ cells used others tree shares. (λ yes. absurd (false≢true yes), λ has. absurd (missing_of form (g.P.Pages.store c.args.pages.now).map c.args.root c.args.cell.now (λ zero. omega (arith, c.number.ensures, zero)) (g.P.Pages.store c.remove_below.new.pages).map (subst (RemovesPart form (g.P.Pages.store c.args.pages.now).map (g.P.Pages.store c.remove_below.new.pages).map c.args.root c.args.cell.now) c.in-Missing.is (c.in_ok-remove_below.ensures.removed tied)) cells used others tree shares has)) };
    }

pub returns-in-Kept-clause-removes : goal.returns-in-Kept-clause-removes
returns-in-Kept-clause-removes g c = λ tied.
    let form : Form = form_in g.S.Summary c.args.layout in
    record {
      changes = kept_changes form (g.P.Pages.store c.args.pages.now).map c.args.root c.args.cell.now (λ zero. omega (arith, c.number.ensures, zero)) (g.P.Pages.store c.remove_below.new.pages).map (subst (RemovesPart form (g.P.Pages.store c.args.pages.now).map (g.P.Pages.store c.remove_below.new.pages).map c.args.root c.args.cell.now) c.in-Kept.is (c.in_ok-remove_below.ensures.removed tied));
      tells = record { each = λ cells used others tree shares. (λ yes. found_of form (g.P.Pages.store c.args.pages.now).map c.args.root c.args.cell.now (λ zero. omega (arith, c.number.ensures, zero)) (g.P.Pages.store c.remove_below.new.pages).map Kept (subst (RemovesPart form (g.P.Pages.store c.args.pages.now).map (g.P.Pages.store c.remove_below.new.pages).map c.args.root c.args.cell.now) c.in-Kept.is (c.in_ok-remove_below.ensures.removed tied)) (λ e. cc) cells used others tree shares, λ has. refl) };
    }

pub returns-in-Gone-clause-removes : goal.returns-in-Gone-clause-removes
returns-in-Gone-clause-removes g c = λ tied.
    let form : Form = form_in g.S.Summary c.args.layout in
    record {
      changes = subst (λ n. Changes form (g.P.Pages.store c.args.pages.now).map (g.P.Pages.store c.remove_below.new.pages).map c.args.root n (without_cell c.args.cell.now)) (sym c.new.ensures)
          (gone_changes form (g.P.Pages.store c.args.pages.now).map c.args.root c.args.cell.now (λ zero. omega (arith, c.number.ensures, zero)) (g.P.Pages.store c.remove_below.new.pages).map (subst (RemovesPart form (g.P.Pages.store c.args.pages.now).map (g.P.Pages.store c.remove_below.new.pages).map c.args.root c.args.cell.now) c.in-Gone.is (c.in_ok-remove_below.ensures.removed tied)));
      tells = record { each = λ cells used others tree shares. (λ yes. found_of form (g.P.Pages.store c.args.pages.now).map c.args.root c.args.cell.now (λ zero. omega (arith, c.number.ensures, zero)) (g.P.Pages.store c.remove_below.new.pages).map Gone (subst (RemovesPart form (g.P.Pages.store c.args.pages.now).map (g.P.Pages.store c.remove_below.new.pages).map c.args.root c.args.cell.now) c.in-Gone.is (c.in_ok-remove_below.ensures.removed tied)) (λ e. cc) cells used others tree shares, λ has. refl) };
    }

pub returns-in_ok-release-in-Single-clause-removes : goal.returns-in_ok-release-in-Single-clause-removes
returns-in_ok-release-in-Single-clause-removes g c = λ tied.
    let form : Form = form_in g.S.Summary c.args.layout in
    let later = g.met.P.Pages.keeps_tied c.args.pages.now c.remove_below.new.pages c.in_ok-remove_below.ensures.keeps tied in
    record {
      changes = single_changes form (g.P.Pages.store c.args.pages.now).map c.args.root c.args.cell.now (λ zero. omega (arith, c.number.ensures, zero)) (g.P.Pages.is_tied c.remove_below.new.pages) (g.P.Pages.store c.remove_below.new.pages) c.in-Single.top later (subst (RemovesPart form (g.P.Pages.store c.args.pages.now).map (g.P.Pages.store c.remove_below.new.pages).map c.args.root c.args.cell.now) c.in-Single.is (c.in_ok-remove_below.ensures.removed tied)) (g.P.Pages.store c.release.new.self) c.in_ok-release-in-Single.ensures.releases;
      tells = record { each = λ cells used others tree shares. (λ yes. found_of form (g.P.Pages.store c.args.pages.now).map c.args.root c.args.cell.now (λ zero. omega (arith, c.number.ensures, zero)) (g.P.Pages.store c.remove_below.new.pages).map (Single c.in-Single.top) (subst (RemovesPart form (g.P.Pages.store c.args.pages.now).map (g.P.Pages.store c.remove_below.new.pages).map c.args.root c.args.cell.now) c.in-Single.is (c.in_ok-remove_below.ensures.removed tied)) (λ e. cc) cells used others tree shares, λ has. refl) };
    }
