-- The tree and the count are those of the cells.
use Rattle.std.proofs.Common.{ℕ, Bool, List, subst, sym, refl, ◌∙◌}
use Rattle.std.proofs.lemmas.Bool.{false≢true}
use Rattle.std.proofs.lemmas.Result.{err_from_is_err_and}
use Rattle.rs_btree.specs.Rooted.{Rooted}
use Rattle.rs_pages.specs.PageMap.{PageMap}
use Rattle.rs_tree.specs.Calls.{IsNotShared}
use Rattle.rs_tree.specs.Cells.{with_cell}
use Rattle.rs_tree.specs.Form.{Form}
use Rattle.rs_tree.specs.Forms.{form}
use Rattle.rs_page_owners.proofs.Working.{CountsNothing-refl, Works-refl}
use Rattle.rs_page_owners.proofs.Following.{works_err}
use Rattle.rs_cell_versions.specs.Calls as cells
use Rattle.rs_cell_versions.specs.Inner.{Adds, standing}
use Rattle.rs_cell_versions.specs.Versioned.{ChangesCells, HoldsNone, Standing, Versioned}
use Rattle.rs_cell_versions.proofs.Steps.{TellsNew, none_shared}
use Rattle.rs_cell_versions.proofs.Staying.{stays_held}
use Rattle.rs_cell_versions.proofs.versions.Versions.add.Goals as goal

pub returns-in_err-new-clause-leaves : goal.returns-in_err-new-clause-leaves
returns-in_err-new-clause-leaves g c =
    let d = c.self.inside in
    let old = (g.P.Pages.store c.args.pages.now).map in
    let p = err_from_is_err_and c.from_residual.result c.from_residual.ensures.1 in
    record {
      keeps = c.in_err-new.ensures.keeps;
      works = rw (p.1, p.2) (works_err {U = Bool × ℕ} (g.P.Pages.is_tied c.args.pages.now → HoldsNone (form g.S.Summary c.args.self.now.width) old c.args.self.now.working)
          (g.P.Pages.is_tied c.args.pages.now → IsNotShared (form g.S.Summary c.copy_of-tree.result.width) old c.copy_of-tree.result.root) c.in_err-new.field-0.0
          (g.P.Pages.store c.args.pages.now) (g.P.Pages.store c.args.pages.now) (g.P.Pages.store c.put.new.pages) (Works-refl (g.P.Pages.store c.args.pages.now)) (CountsNothing-refl (g.P.Pages.store c.args.pages.now))
          (λ none tied. subst (λ (v : Versioned). HoldsNone (form g.S.Summary v.width) old v.working) c.self.view_is
          (none_shared (form g.S.Summary d.tree.width) old (standing d.tree.root d.living d.dead.working)
          (subst (λ (t : Rooted). IsNotShared (form g.S.Summary t.width) old t.root) c.copy_of-tree.ensures (none tied))))
          c.in_err-new.ensures.works);
    }

-- it is told of the cells what is told of their tree
tells_of : (form : Form) (pages : PageMap) (standing : Standing) (cell : List ℕ) (is_new : Bool) → TellsNew form pages standing.root cell is_new → cells.TellsNew form pages standing cell is_new
tells_of form pages standing cell is_new tells = λ cells used others holds shares. tells cells used holds.tree

pub returns-then-new-clause-adds : goal.returns-then-new-clause-adds
returns-then-new-clause-adds g c = λ tied.
    let d = c.self.inside in
    let old = (g.P.Pages.store c.args.pages.now).map in
    let new = (g.P.Pages.store c.put.new.pages).map in
    let was = standing d.tree.root d.living d.dead.working in
    let is = standing c.put.new.tree.root c.in_ok-new.living d.dead.working in
    let tells = subst (λ (t : Rooted). TellsNew (form g.S.Summary t.width) old t.root c.args.cell.now c.in_ok-new.new) c.copy_of-tree.ensures (c.in_ok-new.ensures.puts tied).tells in
    let adds = subst (λ (t : Rooted). Adds (form g.S.Summary t.width) old new t.root d.living c.put.new.tree.root c.in_ok-new.living c.args.cell.now) c.copy_of-tree.ensures (c.in_ok-new.ensures.puts tied).adds in
    record {
      changes = subst (λ (v : Versioned). ChangesCells (form g.S.Summary v.width) old new v.working is (with_cell c.args.cell.now)) c.self.view_is (adds.each d.dead.working);
      tells = subst (λ (v : Versioned). cells.TellsNew (form g.S.Summary v.width) old v.working c.args.cell.now c.in_ok-new.new) c.self.view_is
          (tells_of (form g.S.Summary d.tree.width) old was c.args.cell.now c.in_ok-new.new tells);
      rests = λ isnt. absurd (false≢true (sym isnt ∙ c.if-new.true));
    }

pub returns-else-new-clause-adds : goal.returns-else-new-clause-adds
returns-else-new-clause-adds g c = λ tied.
    let d = c.self.inside in
    let old = (g.P.Pages.store c.args.pages.now).map in
    let new = (g.P.Pages.store c.put.new.pages).map in
    let was = standing d.tree.root d.living d.dead.working in
    let tells = subst (λ (t : Rooted). TellsNew (form g.S.Summary t.width) old t.root c.args.cell.now c.in_ok-new.new) c.copy_of-tree.ensures (c.in_ok-new.ensures.puts tied).tells in
    record {
      changes = subst (λ (v : Versioned). ChangesCells (form g.S.Summary v.width) old new v.working v.working (with_cell c.args.cell.now)) c.self.view_is
          (stays_held (form g.S.Summary d.tree.width) old new was c.args.cell.now c.in_ok-new.new c.if-new.false ((c.in_ok-new.ensures.puts tied).rests c.if-new.false) tells);
      tells = subst (λ (v : Versioned). cells.TellsNew (form g.S.Summary v.width) old v.working c.args.cell.now c.in_ok-new.new) c.self.view_is
          (tells_of (form g.S.Summary d.tree.width) old was c.args.cell.now c.in_ok-new.new tells);
      rests = λ isnt. ((c.in_ok-new.ensures.puts tied).rests isnt, refl);
    }
