-- Up to a bound above all cells.
use Rattle.std.proofs.Common.{◌≡◌, ◌∙◌, ℕ, true, false, Err, List, sym, ap}
use Rattle.std.proofs.lemmas.Result.{IfOk-weaker, err_from_is_err_and}
use Rattle.rs_refusal.specs.declared.refusal.Refusal.TheVariants as refusal
use Rattle.rs_records.specs.Listed.{listed}
use Rattle.rs_records.specs.Order.{is_below}
use Rattle.rs_tree.specs.Cells.{cells_within}
use Rattle.rs_tree.specs.Form.{form_of}
use Rattle.rs_tree.specs.Tree.{IsTree}
use Rattle.rs_tree.proofs.Below.{below_one_way}
use Rattle.rs_pages.proofs.Resting.{rests_then}
use Rattle.rs_cell_versions.specs.Opening.{Looked}
use Rattle.rs_cell_versions.proofs.Looks.{FindsWithin, above_at, all_left, cells_from, no_tree_at, no_tree_otherwise, none_left, on_both, otherwise_back, passed_all, passed_same, rest_passed, told_below}
use Rattle.rs_cell_versions.proofs.Staying.{tree_same}
use Rattle.rs_cell_versions.proofs.opening.Opening.rest.Goals as goal

pub returns-in_err-high-clause-ends : goal.returns-in_err-high-clause-ends
returns-in_err-high-clause-ends g c = λ tied.
    let v = c.args.self.now in
    let old = (g.P.Pages.store c.args.pages.now).map in
    let summary : c.new-layout.result.summary ≡ g.S.Summary.WIDTH = c.new-layout.ensures.summary ∙ c.WIDTH.ensures in
    let width : c.new-layout.result.width ≡ v.told.width = c.new-layout.ensures.width ∙ c.width-width.ensures.width ∙ c.self.invariant.0 ∙ ap (λ (l : Looked). l.told.width) c.self.view_is in
    let root : c.root.result ≡ v.told.root = c.root.ensures ∙ ap (λ (l : Looked). l.told.root) c.self.view_is in
    let p = err_from_is_err_and c.from_residual.result c.from_residual.ensures.1 in
    record {
      left = rw p.1 tt;
      passed = λ passed. rw p.1 tt;
      damaged = λ is passed.
          let why : c.in_err-high.field-0.0 ≡ refusal.DamagedFile = cc (p.1, p.2, is) in
          no_tree_otherwise (form_of g.S.Summary.says g.S.Summary.unit g.S.Summary.join g.S.Summary.of g.S.Summary.WIDTH c.args.self.now.told.width) old v.told (no_tree_at (form_of g.S.Summary.says g.S.Summary.unit g.S.Summary.join g.S.Summary.of) old c.new-layout.result.summary g.S.Summary.WIDTH c.new-layout.result.width v.told.width c.root.result v.told.root summary width root ((c.in_err-high.ensures.bounds tied).damaged (ap Err why)));
    }

pub returns-then-not-is_below-clause-ends : goal.returns-then-not-is_below-clause-ends
returns-then-not-is_below-clause-ends g c = λ tied.
    let v = c.args.self.now in
    let old = (g.P.Pages.store c.args.pages.now).map in
    let summary : c.new-layout.result.summary ≡ g.S.Summary.WIDTH = c.new-layout.ensures.summary ∙ c.WIDTH.ensures in
    let width : c.new-layout.result.width ≡ v.told.width = c.new-layout.ensures.width ∙ c.width-width.ensures.width ∙ c.self.invariant.0 ∙ ap (λ (l : Looked). l.told.width) c.self.view_is in
    let root : c.root.result ≡ v.told.root = c.root.ensures ∙ ap (λ (l : Looked). l.told.root) c.self.view_is in
    let low : c.deref.result.now ≡ v.low = c.deref.ensures.value ∙ ap (λ (l : Looked). l.low) c.self.view_is in
    let order = told_below v.low c.in_ok-high.high.items c.deref.result.now c.deref-2.result.now c.is_below.result false low c.deref-2.ensures.value c.is_below.ensures c.if-not-is_below.true in
    let above = above_at (form_of g.S.Summary.says g.S.Summary.unit g.S.Summary.join g.S.Summary.of) old c.new-layout.result.summary g.S.Summary.WIDTH c.new-layout.result.width v.told.width c.root.result v.told.root summary width root c.in_ok-high.high.items (c.in_ok-high.ensures.bounds tied).above in
    record {
      left = λ cells used tree.
          c.new.ensures.none ∙ sym (none_left v.low c.in_ok-high.high.items cells order (above.each cells used tree));
      passed = λ passed.
          passed_all (form_of g.S.Summary.says g.S.Summary.unit g.S.Summary.join g.S.Summary.of g.S.Summary.WIDTH c.args.self.now.told.width) old v c.in_ok-high.high.items above order passed;
      damaged = λ is. absurd (cc);
    }

pub part-requires : goal.part-requires
part-requires g c =
    let v = c.args.self.now in
    let low : c.deref.result.now ≡ v.low = c.deref.ensures.value ∙ ap (λ (l : Looked). l.low) c.self.view_is in
    let order = told_below v.low c.in_ok-high.high.items c.deref.result.now c.deref-2.result.now c.is_below.result true low c.deref-2.ensures.value c.is_below.ensures c.if-not-is_below.false in
    record { order = ap (λ (l : List ℕ). is_below l v.low) c.deref-3.ensures.value ∙ below_one_way v.low c.in_ok-high.high.items order }

pub returns-clause-rests : goal.returns-clause-rests
returns-clause-rests g c =
    rests_then g.P.Pages.is_tied g.P.Pages.store g.P.Pages.keeps c.in_ok-high.high c.part.result c.args.pages.now c.bound_above.new.pages c.part.new.pages g.met.P.Pages.keeps_trans g.met.P.Pages.keeps_tied c.in_ok-high.ensures.rests c.part.ensures.rests

pub returns-clause-ends : goal.returns-clause-ends
returns-clause-ends g c = λ tied.
    let v = c.args.self.now in
    let old = (g.P.Pages.store c.args.pages.now).map in
    let summary : c.new-layout.result.summary ≡ g.S.Summary.WIDTH = c.new-layout.ensures.summary ∙ c.WIDTH.ensures in
    let width : c.new-layout.result.width ≡ v.told.width = c.new-layout.ensures.width ∙ c.width-width.ensures.width ∙ c.self.invariant.0 ∙ ap (λ (l : Looked). l.told.width) c.self.view_is in
    let root : c.root.result ≡ v.told.root = c.root.ensures ∙ ap (λ (l : Looked). l.told.root) c.self.view_is in
    let mid = (g.P.Pages.store c.bound_above.new.pages).map in
    let later = g.met.P.Pages.keeps_tied c.args.pages.now c.bound_above.new.pages c.in_ok-high.ensures.rests.below tied in
    let same = c.in_ok-high.ensures.rests.rests.keeps.pages tied in
    let above = above_at (form_of g.S.Summary.says g.S.Summary.unit g.S.Summary.join g.S.Summary.of) old c.new-layout.result.summary g.S.Summary.WIDTH c.new-layout.result.width v.told.width c.root.result v.told.root summary width root c.in_ok-high.high.items (c.in_ok-high.ensures.bounds tied).above in
    let parts = c.part.ensures.parts later in
    record {
      left = IfOk-weaker c.part.result (λ found. FindsWithin (form_of g.S.Summary.says g.S.Summary.unit g.S.Summary.join g.S.Summary.of g.S.Summary.WIDTH c.args.self.now.told.width) mid v.told.root v.low c.deref-3.result.now (listed found))
          (λ left. (cells : List (List ℕ)) (used : ℕ → ℕ) → IsTree (form_of g.S.Summary.says g.S.Summary.unit g.S.Summary.join g.S.Summary.of g.S.Summary.WIDTH c.args.self.now.told.width) old v.told.root cells used → listed left ≡ cells_from v.low cells)
          (λ found finds cells used tree. finds cells used (tree_same (form_of g.S.Summary.says g.S.Summary.unit g.S.Summary.join g.S.Summary.of g.S.Summary.WIDTH c.args.self.now.told.width) old mid same v.told.root cells used tree) ∙ ap (λ (h : List ℕ). cells_within v.low h cells) c.deref-3.ensures.value
          ∙ all_left v.low c.in_ok-high.high.items cells (above.each cells used tree))
          parts.found;
      passed = λ passed.
          on_both c.part.result c.part.ensures.low (parts.passed (passed_same (form_of g.S.Summary.says g.S.Summary.unit g.S.Summary.join g.S.Summary.of g.S.Summary.WIDTH c.args.self.now.told.width) old mid same v passed))
          (λ low now. rest_passed (form_of g.S.Summary.says g.S.Summary.unit g.S.Summary.join g.S.Summary.of g.S.Summary.WIDTH c.args.self.now.told.width) old mid same v c.part.new.self c.in_ok-high.high.items c.part.ensures.told (low ∙ c.deref-3.ensures.value) above now);
      damaged = λ is passed.
          otherwise_back (form_of g.S.Summary.says g.S.Summary.unit g.S.Summary.join g.S.Summary.of g.S.Summary.WIDTH c.args.self.now.told.width) old mid same v.told (parts.damaged is (passed_same (form_of g.S.Summary.says g.S.Summary.unit g.S.Summary.join g.S.Summary.of g.S.Summary.WIDTH c.args.self.now.told.width) old mid same v passed));
    }
