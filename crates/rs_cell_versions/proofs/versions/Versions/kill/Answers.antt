-- The cell that is written is listed where it is new.
use Rattle.std.proofs.Common.{◌≡◌, ◌≤◌, ◌++◌, ◌∷◌, [], ℕ, Bool, List, length, subst, sym, ap, ◌∙◌, arith, rules}
use Rattle.std.proofs.lemmas.Result.{err_from_is_err_and}
use Rattle.std.specs.List.{AllByRecursion}
use Rattle.rs_btree.specs.Rooted.{Rooted}
use Rattle.rs_pages.specs.PageMap.{PageMap}
use Rattle.rs_tree.specs.Calls.{IsNotShared}
use Rattle.rs_tree.specs.Form.{Form}
use Rattle.rs_tree.specs.Forms.{form}
use Rattle.rs_page_owners.proofs.Working.{CountsNothing-refl, Works-refl}
use Rattle.rs_page_owners.proofs.Following.{works_err}
use Rattle.rs_cell_versions.specs.Calls.{TellsOf}
use Rattle.rs_cell_versions.specs.Changes.{Ends}
use Rattle.rs_cell_versions.specs.Inner.{EndsOne, standing, with_last}
use Rattle.rs_cell_versions.specs.Version.{died_of, ended}
use Rattle.rs_cell_versions.specs.Versioned.{HoldsNone, Standing, Versioned}
use Rattle.rs_cell_versions.specs.declared.changing.Ended.{Ended}
use Rattle.rs_cell_versions.proofs.Ending.{died-ended, length-ended}
use Rattle.rs_cell_versions.proofs.Fronts.{all_push}
use Rattle.rs_cell_versions.proofs.Steps.{Tells, none_shared}
use Rattle.rs_cell_versions.proofs.versions.Versions.kill.Goals as goal

-- it is told of the cells what is told of their tree
tells_of : (form : Form) (pages : PageMap) (standing : Standing) (cell : List ℕ) (found : Bool) → Tells form pages standing.root cell found → TellsOf form pages standing cell found
tells_of form pages standing cell found tells = λ cells used others holds shares. tells cells used others holds.tree shares

pub returns-in_err-ended-clause-leaves : goal.returns-in_err-ended-clause-leaves
returns-in_err-ended-clause-leaves g c =
    let d = c.self.inside in
    let old = (g.P.Pages.store c.args.pages.now).map in
    let p = err_from_is_err_and c.from_residual-in_err-ended.result c.from_residual-in_err-ended.ensures.1 in
    record {
      keeps = c.in_err-ended.ensures.keeps;
      works = rw (p.1, p.2) (works_err {U = Ended} (g.P.Pages.is_tied c.args.pages.now → HoldsNone (form g.S.Summary c.args.self.now.width) old c.args.self.now.working)
          (g.P.Pages.is_tied c.args.pages.now → IsNotShared (form g.S.Summary c.copy_of-tree.result.width) old c.copy_of-tree.result.root) c.in_err-ended.field-0.0
          (g.P.Pages.store c.args.pages.now) (g.P.Pages.store c.args.pages.now) (g.P.Pages.store c.end.new.pages) (Works-refl (g.P.Pages.store c.args.pages.now)) (CountsNothing-refl (g.P.Pages.store c.args.pages.now))
          (λ none tied. subst (λ (v : Versioned). HoldsNone (form g.S.Summary v.width) old v.working) c.self.view_is
          (none_shared (form g.S.Summary d.tree.width) old (standing d.tree.root d.living d.dead.working)
          (subst (λ (t : Rooted). IsNotShared (form g.S.Summary t.width) old t.root) c.copy_of-tree.ensures (none tied))))
          c.in_err-ended.ensures.works);
    }

pub list_written-requires-clause-whole : goal.list_written-requires-clause-whole
list_written-requires-clause-whole g c =
    let written : c.write.new.self.written ≡ ended c.args.version c.args.cell.now = search rules in
    let wide : length c.args.cell.now ≡ c.self.inside.dead.width =
    c.requires.width ∙ sym (ap (λ (v : Versioned). v.width) c.self.view_is) ∙ sym c.self.invariant.0 in
    ap length written ∙ length-ended c.args.version c.args.cell.now (omega (arith, wide, c.self.invariant.0, c.self.invariant.1.0.some)) ∙ wide ∙ sym c.write.ensures.width

pub list_written-requires-clause-order : goal.list_written-requires-clause-order
list_written-requires-clause-order g c =
    let written : c.write.new.self.written ≡ ended c.args.version c.args.cell.now = search rules in
    let died : died_of c.write.new.self.written ≡ c.args.version = ap died_of written ∙ died-ended c.args.version c.args.cell.now (omega (arith, c.requires.version)) in
    let same : c.args.self.now.working.dead ≡ c.write.new.self.working = sym (ap (λ (v : Versioned). v.working.dead) c.self.view_is) ∙ sym c.write.ensures.working in
    subst (λ (n : ℕ). AllByRecursion (λ dead. died_of dead ≤ n) c.write.new.self.working) (sym died)
    (subst (λ (cells : List (List ℕ)). AllByRecursion (λ dead. died_of dead ≤ c.args.version) cells) same (c.requires.order (c.in_ok-ended.ensures.late c.if-ended.true)))

pub returns-then-ended-clause-order : goal.returns-then-ended-clause-order
returns-then-ended-clause-order g c = λ last later before.
    let written : c.write.new.self.written ≡ ended c.args.version c.args.cell.now = search rules in
    let died : died_of c.write.new.self.written ≡ c.args.version = ap died_of written ∙ died-ended c.args.version c.args.cell.now (omega (arith, c.requires.version)) in
    let same : c.args.self.now.working.dead ≡ c.write.new.self.working = sym (ap (λ (v : Versioned). v.working.dead) c.self.view_is) ∙ sym c.write.ensures.working in
    subst (λ (cells : List (List ℕ)). AllByRecursion (λ dead. died_of dead ≤ last) cells) (sym c.list_written.ensures.working)
    (all_push (λ dead. died_of dead ≤ last) c.write.new.self.working c.write.new.self.written
    (subst (λ (cells : List (List ℕ)). AllByRecursion (λ dead. died_of dead ≤ last) cells) same before) (omega (arith, died, later)))

pub returns-then-ended-clause-kills : goal.returns-then-ended-clause-kills
returns-then-ended-clause-kills g c = λ tied.
    let d = c.self.inside in
    let old = (g.P.Pages.store c.args.pages.now).map in
    let new = (g.P.Pages.store c.end.new.pages).map in
    let written : c.write.new.self.written ≡ ended c.args.version c.args.cell.now = search rules in
    let last : c.list_written.new.self.working ≡ with_last c.in_ok-ended.ended.listed (ended c.args.version c.args.cell.now) d.dead.working =
    c.list_written.ensures.working ∙ ap (λ xs. xs ++ c.write.new.self.written ∷ []) c.write.ensures.working ∙ ap (λ x. d.dead.working ++ x ∷ []) written
    ∙ ap (λ (b : Bool). with_last b (ended c.args.version c.args.cell.now) d.dead.working) (sym c.if-ended.true) in
    let ends = subst (λ (t : Rooted). EndsOne (form g.S.Summary t.width) old new t.root d.living c.end.new.tree.root c.in_ok-ended.ended.living c.in_ok-ended.ended.listed c.args.version c.args.cell.now) c.copy_of-tree.ensures
    (c.in_ok-ended.ensures.ends tied).ends in
    let tells = subst (λ (t : Rooted). Tells (form g.S.Summary t.width) old t.root c.args.cell.now c.in_ok-ended.ended.found) c.copy_of-tree.ensures (c.in_ok-ended.ensures.ends tied).tells in
    record {
      ends = subst (λ (v : Versioned). Ends (form g.S.Summary v.width) old new v.working (standing c.end.new.tree.root c.in_ok-ended.ended.living c.list_written.new.self.working) c.args.version c.args.cell.now) c.self.view_is
          (subst (λ (dead : List (List ℕ)). Ends (form g.S.Summary d.tree.width) old new (standing d.tree.root d.living d.dead.working) (standing c.end.new.tree.root c.in_ok-ended.ended.living dead) c.args.version c.args.cell.now) (sym last)
          (ends.each d.dead.working));
      tells = subst (λ (v : Versioned). TellsOf (form g.S.Summary v.width) old v.working c.args.cell.now c.in_ok-ended.ended.found) c.self.view_is
          (tells_of (form g.S.Summary d.tree.width) old (standing d.tree.root d.living d.dead.working) c.args.cell.now c.in_ok-ended.ended.found tells);
    }

pub returns-else-ended-clause-kills : goal.returns-else-ended-clause-kills
returns-else-ended-clause-kills g c = λ tied.
    let d = c.self.inside in
    let old = (g.P.Pages.store c.args.pages.now).map in
    let new = (g.P.Pages.store c.end.new.pages).map in
    let last : c.write.new.self.working ≡ with_last c.in_ok-ended.ended.listed (ended c.args.version c.args.cell.now) d.dead.working =
    c.write.ensures.working ∙ ap (λ (b : Bool). with_last b (ended c.args.version c.args.cell.now) d.dead.working) (sym c.if-ended.false) in
    let ends = subst (λ (t : Rooted). EndsOne (form g.S.Summary t.width) old new t.root d.living c.end.new.tree.root c.in_ok-ended.ended.living c.in_ok-ended.ended.listed c.args.version c.args.cell.now) c.copy_of-tree.ensures
    (c.in_ok-ended.ensures.ends tied).ends in
    let tells = subst (λ (t : Rooted). Tells (form g.S.Summary t.width) old t.root c.args.cell.now c.in_ok-ended.ended.found) c.copy_of-tree.ensures (c.in_ok-ended.ensures.ends tied).tells in
    record {
      ends = subst (λ (v : Versioned). Ends (form g.S.Summary v.width) old new v.working (standing c.end.new.tree.root c.in_ok-ended.ended.living c.write.new.self.working) c.args.version c.args.cell.now) c.self.view_is
          (subst (λ (dead : List (List ℕ)). Ends (form g.S.Summary d.tree.width) old new (standing d.tree.root d.living d.dead.working) (standing c.end.new.tree.root c.in_ok-ended.ended.living dead) c.args.version c.args.cell.now) (sym last)
          (ends.each d.dead.working));
      tells = subst (λ (v : Versioned). TellsOf (form g.S.Summary v.width) old v.working c.args.cell.now c.in_ok-ended.ended.found) c.self.view_is
          (tells_of (form g.S.Summary d.tree.width) old (standing d.tree.root d.living d.dead.working) c.args.cell.now c.in_ok-ended.ended.found tells);
    }
