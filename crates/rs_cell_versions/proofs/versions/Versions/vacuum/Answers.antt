-- What was taken is the front of the dead.
use Rattle.std.proofs.Common.{◌≡◌, ◌++◌, ℕ, List, length, take, drop, subst, sym, ap, ◌∙◌, rules}
use Rattle.std.proofs.lemmas.List.{take-append-drop}
use Rattle.std.proofs.lemmas.Result.{err_from_is_err_and}
use Rattle.rs_btree.specs.Rooted.{Rooted}
use Rattle.rs_records.specs.Listed.{listed}
use Rattle.rs_tree.specs.Forms.{form}
use Rattle.rs_page_owners.proofs.Working.{CountsNothing-refl, Works-refl}
use Rattle.rs_page_owners.proofs.Following.{works_err}
use Rattle.rs_cell_versions.specs.Changes.{cleared, without_cells}
use Rattle.rs_cell_versions.specs.Inner.{HoldsNoneFirst, TakesOut, standing}
use Rattle.rs_cell_versions.specs.Versioned.{ChangesCells, HoldsNone, Versioned}
use Rattle.rs_cell_versions.proofs.versions.Versions.vacuum.Goals as goal

-- the front and the rest
parted : (gone dead : List (List ℕ)) → gone ≡ take (length gone) dead → gone ++ drop (length gone) dead ≡ dead
parted gone dead first = ap (λ xs. xs ++ drop (length gone) dead) first ∙ take-append-drop (length gone) dead

pub returns-in_err-take_out-clause-leaves : goal.returns-in_err-take_out-clause-leaves
returns-in_err-take_out-clause-leaves g c =
    let d = c.self.inside in
    let old = (g.P.Pages.store c.args.pages.now).map in
    let gone = listed c.in_ok-taken.taken in
    let first : gone ≡ take (length gone) d.dead.working = search rules in
    let p = err_from_is_err_and c.from_residual-in_err-take_out.result c.from_residual-in_err-take_out.ensures.1 in
    record {
      keeps = c.in_err-take_out.ensures.keeps;
      works = rw (p.1, p.2) (works_err {U = Unit {0}} (g.P.Pages.is_tied c.args.pages.now → HoldsNone (form g.S.Summary c.args.self.now.width) old c.args.self.now.working)
          (g.P.Pages.is_tied c.args.pages.now → HoldsNoneFirst (form g.S.Summary c.copy_of-tree.result.width) old c.copy_of-tree.result.root gone) c.in_err-take_out.field-0.0
          (g.P.Pages.store c.args.pages.now) (g.P.Pages.store c.args.pages.now) (g.P.Pages.store c.take_out.new.pages) (Works-refl (g.P.Pages.store c.args.pages.now)) (CountsNothing-refl (g.P.Pages.store c.args.pages.now))
          (λ none tied. let here = subst (λ (t : Rooted). HoldsNoneFirst (form g.S.Summary t.width) old t.root gone) c.copy_of-tree.ensures (none tied) in
          subst (λ (v : Versioned). HoldsNone (form g.S.Summary v.width) old v.working) c.self.view_is
          (subst (λ (dead : List (List ℕ)). HoldsNone (form g.S.Summary d.tree.width) old (standing d.tree.root d.living dead)) (parted gone d.dead.working first)
          (here.each d.living (drop (length gone) d.dead.working))))
          c.in_err-take_out.ensures.works);
    }

pub returns-clause-vacuums : goal.returns-clause-vacuums
returns-clause-vacuums g c = λ tied.
    let d = c.self.inside in
    let old = (g.P.Pages.store c.args.pages.now).map in
    let new = (g.P.Pages.store c.take_out.new.pages).map in
    let gone = listed c.in_ok-taken.taken in
    let to = c.take_out.new.tree.root in
    let first : gone ≡ take (length gone) d.dead.working = search rules in
    let all : gone ≡ cleared c.args.oldest c.args.most d.dead.working = search rules in
    let rest : c.take_front.new.self.working ≡ drop (length gone) d.dead.working = c.take_front.ensures.working ∙ ap (λ (n : ℕ). drop n d.dead.working) c.len.ensures in
    let takes = subst (λ (t : Rooted). TakesOut (form g.S.Summary t.width) old new t.root to gone) c.copy_of-tree.ensures (c.in_ok-take_out.ensures.taken tied) in
    subst (λ (v : Versioned). ChangesCells (form g.S.Summary v.width) old new v.working (standing to d.living c.take_front.new.self.working) (without_cells (cleared c.args.oldest c.args.most v.working.dead))) c.self.view_is
    (subst (λ (dead : List (List ℕ)). ChangesCells (form g.S.Summary d.tree.width) old new (standing d.tree.root d.living d.dead.working) (standing to d.living dead) (without_cells (cleared c.args.oldest c.args.most d.dead.working))) (sym rest)
    (subst (λ (cells : List (List ℕ)). ChangesCells (form g.S.Summary d.tree.width) old new (standing d.tree.root d.living d.dead.working) (standing to d.living (drop (length gone) d.dead.working)) (without_cells cells)) all
    (subst (λ (dead : List (List ℕ)). ChangesCells (form g.S.Summary d.tree.width) old new (standing d.tree.root d.living dead) (standing to d.living (drop (length gone) d.dead.working)) (without_cells gone)) (parted gone d.dead.working first)
    (takes.each d.living (drop (length gone) d.dead.working)))))
