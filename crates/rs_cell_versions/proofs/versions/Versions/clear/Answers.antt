-- No cells and no pages are left.
use Rattle.std.proofs.Common.{◌≡◌, ℕ, [], subst, sym, ap, ◌∙◌, rules}
use Rattle.std.proofs.lemmas.Result.{err_from_is_err_and}
use Rattle.rs_tree.specs.Calls.{IsNotShared}
use Rattle.rs_tree.specs.Forms.{form}
use Rattle.rs_page_owners.proofs.Working.{CountsNothing-refl, Works-refl}
use Rattle.rs_page_owners.proofs.Following.{works_err}
use Rattle.rs_cell_versions.specs.Inner.{standing}
use Rattle.rs_cell_versions.specs.Versioned.{ChangesCells, HoldsNone, Standing, Versioned, nothing_stands}
use Rattle.rs_cell_versions.proofs.Steps.{cleared_cells, none_shared}
use Rattle.rs_cell_versions.proofs.versions.Versions.clear.Goals as goal

pub returns-in_err-clear-clause-leaves : goal.returns-in_err-clear-clause-leaves
returns-in_err-clear-clause-leaves g c =
    let d = c.self.inside in
    let old = (g.P.Pages.store c.args.pages.now).map in
    let p = err_from_is_err_and c.from_residual.result c.from_residual.ensures.1 in
    record {
      keeps = c.in_err-clear.ensures.leaves.keeps;
      works = rw (p.1, p.2) (works_err {U = Unit {0}} (g.P.Pages.is_tied c.args.pages.now → HoldsNone (form g.S.Summary c.args.self.now.width) old c.args.self.now.working)
          (g.P.Pages.is_tied c.args.pages.now → IsNotShared (form g.S.Summary d.tree.width) old d.tree.root) c.in_err-clear.field-0.0
          (g.P.Pages.store c.args.pages.now) (g.P.Pages.store c.args.pages.now) (g.P.Pages.store c.clear.new.pages) (Works-refl (g.P.Pages.store c.args.pages.now)) (CountsNothing-refl (g.P.Pages.store c.args.pages.now))
          (λ none tied. subst (λ (v : Versioned). HoldsNone (form g.S.Summary v.width) old v.working) c.self.view_is
          (none_shared (form g.S.Summary d.tree.width) old (standing d.tree.root d.living d.dead.working) (none tied)))
          c.in_err-clear.ensures.leaves.works);
    }

pub returns-clause-clears : goal.returns-clause-clears
returns-clause-clears g c = λ tied.
    let d = c.self.inside in
    let old = (g.P.Pages.store c.args.pages.now).map in
    let new = (g.P.Pages.store c.clear.new.pages).map in
    let none : c.at-self-inside.result.root ≡ 0 = search rules in
    let same : standing c.at-self-inside.result.root 0 c.clear-2.new.self.working ≡ nothing_stands =
    ap (λ (r : ℕ). standing r 0 c.clear-2.new.self.working) none ∙ ap (standing 0 0) c.clear-2.ensures.working in
    subst (λ (v : Versioned). ChangesCells (form g.S.Summary v.width) old new v.working (standing c.at-self-inside.result.root 0 c.clear-2.new.self.working) (λ _. [])) c.self.view_is
    (subst (λ (s : Standing). ChangesCells (form g.S.Summary d.tree.width) old new (standing d.tree.root d.living d.dead.working) s (λ _. [])) (sym same)
    (cleared_cells (form g.S.Summary d.tree.width) old new (standing d.tree.root d.living d.dead.working) c.clear.new.self.root (c.in_ok-clear.ensures.clears tied)))
