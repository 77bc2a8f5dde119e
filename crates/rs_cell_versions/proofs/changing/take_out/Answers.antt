-- One cell after the other.
use Rattle.std.proofs.Common.{◌≡◌, ◌+◌, ◌++◌, [], ◌∷◌, ℕ, suc, List, Some, take, drop, slice_get, sym, ap, ◌∙◌, subst, arith}
use Rattle.std.proofs.lemmas.List.{take-append-drop}
use Rattle.std.proofs.lemmas.Result.{err_from_is_err_and}
use Rattle.rs_records.specs.Listed.{listed}
use Rattle.rs_tree.specs.Form.{Form, form_of}
use Rattle.rs_tree.proofs.Lists.{take_next}
use Rattle.rs_page_owners.proofs.Working.{CountsNothing-trans, Works-trans}
use Rattle.rs_page_owners.proofs.Following.{works_err}
use Rattle.rs_cell_versions.specs.Inner.{HoldsNoneFirst, TakesOut}
use Rattle.rs_cell_versions.proofs.Steps.{none_next, takes_next}
use Rattle.rs_cell_versions.proofs.changing.take_out.Goals as goal

-- those so far, the next one and the rest
parted : (xs : List (List ℕ)) (i : ℕ) (x : List ℕ) → slice_get xs i ≡ Some x → (take i xs ++ x ∷ []) ++ drop (suc i) xs ≡ xs
parted xs i x there = ap (λ ys. ys ++ drop (suc i) xs) (sym (take_next xs i x there)) ∙ take-append-drop (suc i) xs

pub returns-in_err-take_one-clause-works : goal.returns-in_err-take_one-clause-works
returns-in_err-take_one-clause-works g c =
    let form : Form = form_of g.S.Summary.says g.S.Summary.unit g.S.Summary.join g.S.Summary.of g.S.Summary.WIDTH c.args.tree.now.width in
    let old = (g.P.Pages.store c.args.pages.now).map in
    let mid = (g.P.Pages.store c.loop-index.pages).map in
    let all = listed c.args.cells.now in
    let i = c.loop-index.index in
    let cell = c.get.result.now in
    let p = err_from_is_err_and c.from_residual.result c.from_residual.ensures.1 in
    rw (p.1, p.2) (works_err (g.P.Pages.is_tied c.args.pages.now → HoldsNoneFirst form old c.args.tree.now.root all)
    (g.P.Pages.is_tied c.loop-index.pages → HoldsNoneFirst (form_of g.S.Summary.says g.S.Summary.unit g.S.Summary.join g.S.Summary.of g.S.Summary.WIDTH c.loop-index.tree.width) mid c.loop-index.tree.root (cell ∷ [])) c.in_err-take_one.field-0.0
    (g.P.Pages.store c.args.pages.now) (g.P.Pages.store c.loop-index.pages) (g.P.Pages.store c.take_one.new.pages) c.loop-index.invariant.works c.loop-index.invariant.nothing
    (λ none tied.
    let later = g.met.P.Pages.keeps_tied c.args.pages.now c.loop-index.pages c.loop-index.invariant.keeps tied in
    subst (HoldsNoneFirst form old c.args.tree.now.root) (parted all i cell c.get.ensures)
    (none_next form old mid (g.P.Pages.store c.take_one.new.pages).map c.args.tree.now.root c.loop-index.tree.root c.take_one.new.tree.root (take i all) cell (c.loop-index.invariant.taken tied)
    (subst (λ (w : ℕ). HoldsNoneFirst (form_of g.S.Summary.says g.S.Summary.unit g.S.Summary.join g.S.Summary.of g.S.Summary.WIDTH w) mid c.loop-index.tree.root (cell ∷ [])) c.loop-index.invariant.width (none later)) (drop (suc i) all)))
    c.in_err-take_one.ensures.works)

pub loop-index-preserved : goal.loop-index-preserved
loop-index-preserved g c =
    let form : Form = form_of g.S.Summary.says g.S.Summary.unit g.S.Summary.join g.S.Summary.of g.S.Summary.WIDTH c.args.tree.now.width in
    let old = (g.P.Pages.store c.args.pages.now).map in
    let mid = (g.P.Pages.store c.loop-index.pages).map in
    let new = (g.P.Pages.store c.take_one.new.pages).map in
    let all = listed c.args.cells.now in
    let i = c.loop-index.index in
    let cell = c.get.result.now in
    let next : suc i ≡ i + 1 = omega arith in
    record {
      keeps = g.met.P.Pages.keeps_trans c.args.pages.now c.loop-index.pages c.take_one.new.pages c.loop-index.invariant.keeps c.in_ok-take_one.ensures.keeps;
      works = Works-trans (g.P.Pages.store c.args.pages.now) (g.P.Pages.store c.loop-index.pages) (g.P.Pages.store c.take_one.new.pages) c.loop-index.invariant.works c.in_ok-take_one.ensures.works.works;
      nothing = CountsNothing-trans (g.P.Pages.store c.args.pages.now) (g.P.Pages.store c.loop-index.pages) (g.P.Pages.store c.take_one.new.pages) c.loop-index.invariant.nothing c.in_ok-take_one.ensures.works.ends;
      width = c.in_ok-take_one.ensures.width ∙ c.loop-index.invariant.width;
      taken = λ tied.
          let later = g.met.P.Pages.keeps_tied c.args.pages.now c.loop-index.pages c.loop-index.invariant.keeps tied in
          subst (TakesOut form old new c.args.tree.now.root c.take_one.new.tree.root) (sym (take_next all i cell c.get.ensures) ∙ ap (λ n. take n all) next)
          (takes_next form old mid new c.args.tree.now.root c.loop-index.tree.root c.take_one.new.tree.root (take i all) cell (c.loop-index.invariant.taken tied)
          (subst (λ (w : ℕ). TakesOut (form_of g.S.Summary.says g.S.Summary.unit g.S.Summary.join g.S.Summary.of g.S.Summary.WIDTH w) mid new c.loop-index.tree.root c.take_one.new.tree.root (cell ∷ [])) c.loop-index.invariant.width
          (c.in_ok-take_one.ensures.taken later)));
    }
