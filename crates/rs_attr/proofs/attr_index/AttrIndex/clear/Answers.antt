-- No entries and no pages are left.
use Rattle.std.proofs.Common.{◌≡◌, ℕ, [], sym, subst, rules}
use Rattle.std.proofs.lemmas.Result.{err_from_is_err_and}
use Rattle.rs_attr.specs.Entries.{ChangesIndex, Field, HoldsNoIndex, plain_form}
use Rattle.rs_attr.proofs.Indexes.{clear_index, in_index, none_indexed}
use Rattle.rs_tree.specs.Calls.{Changes, IsNotShared}
use Rattle.rs_page_owners.proofs.Working.{CountsNothing-refl, Works-refl}
use Rattle.rs_page_owners.proofs.Following.{works_err}
use Rattle.rs_attr.proofs.attr_index.AttrIndex.clear.Goals as goal

pub returns-in_err-clear-clause-leaves : goal.returns-in_err-clear-clause-leaves
returns-in_err-clear-clause-leaves g c =
    let d = c.self.inside in
    let before = g.P.Pages.store c.args.pages.now in
    let after = g.P.Pages.store c.clear.new.pages in
    let field : Field = record { column = d.column; start = d.start; cell_width = d.cell_width } in
    let p = err_from_is_err_and c.from_residual.result c.from_residual.ensures.1 in
    record {
      keeps = c.in_err-clear.ensures.leaves.keeps;
      works = rw (p.1, p.2) (works_err {T = Unit {0}} {U = Unit {0}} (g.P.Pages.is_tied c.args.pages.now → HoldsNoIndex c.args.self.now.field before.map c.args.self.now.working)
          (g.P.Pages.is_tied c.args.pages.now → IsNotShared (plain_form d.tree.width) before.map d.tree.root) c.in_err-clear.field-0.0 before before after (Works-refl before) (CountsNothing-refl before)
          (λ none tied. in_index (λ (f : Field) (working : ℕ). HoldsNoIndex f before.map working) d.column d.start d.cell_width d.tree.root d.committed c.args.self.now c.self.view_is
          (none_indexed field before.map d.tree.root (subst (λ (w : ℕ). IsNotShared (plain_form w) before.map d.tree.root) c.self.invariant.0 (none tied))))
          c.in_err-clear.ensures.leaves.works);
    }

pub returns-clause-cleared : goal.returns-clause-cleared
returns-clause-cleared g c = λ tied.
    let d = c.self.inside in
    let old = (g.P.Pages.store c.args.pages.now).map in
    let new = (g.P.Pages.store c.clear.new.pages).map in
    let field : Field = record { column = d.column; start = d.start; cell_width = d.cell_width } in
    let none : c.at-self-inside.result.root ≡ 0 = search rules in
    in_index (λ (f : Field) (working : ℕ). ChangesIndex f old new working c.at-self-inside.result.root (λ _. [])) d.column d.start d.cell_width d.tree.root d.committed c.args.self.now c.self.view_is
    (subst (λ (to : ℕ). ChangesIndex field old new d.tree.root to (λ _. [])) (sym none)
    (clear_index field old new d.tree.root c.clear.new.self.root
    (subst (λ (w : ℕ). Changes (plain_form w) old new d.tree.root c.clear.new.self.root (λ _. [])) c.self.invariant.0 (c.in_ok-clear.ensures.clears tied))))
