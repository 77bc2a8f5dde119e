-- The entry of the cell comes into the tree.
use Rattle.std.proofs.Common.{◌≡◌, ℕ, Bool, List, length, sym, ap, subst, ◌∙◌, rules}
use Rattle.std.proofs.lemmas.Result.{err_from_is_err_and}
use Rattle.rs_attr.specs.Entries.{ChangesIndex, Field, HoldsNoIndex, entry_of, index_form, plain_form}
use Rattle.rs_attr.specs.Tables.{IndexState}
use Rattle.rs_attr.proofs.Indexes.{in_index, none_indexed, put_index}
use Rattle.rs_tree.specs.Calls.{Changes, IsNotShared}
use Rattle.rs_tree.specs.Cells.{with_cell}
use Rattle.rs_page_owners.proofs.Working.{CountsNothing-refl, Works-refl}
use Rattle.rs_page_owners.proofs.Following.{works_err}
use Rattle.rs_attr.proofs.attr_index.AttrIndex.put.Goals as goal

pub returns-in_err-insert-clause-leaves : goal.returns-in_err-insert-clause-leaves
returns-in_err-insert-clause-leaves g c =
    let d = c.self.inside in
    let before = g.P.Pages.store c.args.pages.now in
    let after = g.P.Pages.store c.insert.new.pages in
    let field : Field = record { column = d.column; start = d.start; cell_width = d.cell_width } in
    let p = err_from_is_err_and c.from_residual-in_err-insert.result c.from_residual-in_err-insert.ensures.1 in
    record {
      keeps = c.in_err-insert.ensures.leaves.keeps;
      works = rw (p.1, p.2) (works_err {T = Unit {0}} {U = Bool} (g.P.Pages.is_tied c.args.pages.now → HoldsNoIndex c.args.self.now.field before.map c.args.self.now.working)
          (g.P.Pages.is_tied c.args.pages.now → IsNotShared (plain_form d.tree.width) before.map d.tree.root) c.in_err-insert.field-0.0 before before after (Works-refl before) (CountsNothing-refl before)
          (λ none tied. in_index (λ (f : Field) (working : ℕ). HoldsNoIndex f before.map working) d.column d.start d.cell_width d.tree.root d.committed c.args.self.now c.self.view_is
          (none_indexed field before.map d.tree.root (subst (λ (w : ℕ). IsNotShared (plain_form w) before.map d.tree.root) c.self.invariant.0 (none tied))))
          c.in_err-insert.ensures.leaves.works);
    }

pub returns-clause-put : goal.returns-clause-put
returns-clause-put g c = λ tied.
    let d = c.self.inside in
    let old = (g.P.Pages.store c.args.pages.now).map in
    let new = (g.P.Pages.store c.insert.new.pages).map in
    let cell = c.args.cell.now in
    let to = c.insert.new.self.root in
    let field : Field = record { column = d.column; start = d.start; cell_width = d.cell_width } in
    let long : length cell ≡ d.cell_width = c.requires.width ∙ sym (ap (λ (i : IndexState). i.field.cell_width) c.self.view_is) in
    let items : c.in_ok-entry.entry.items ≡ entry_of field cell = search rules in
    in_index (λ (f : Field) (working : ℕ). ChangesIndex f old new working to (with_cell cell)) d.column d.start d.cell_width d.tree.root d.committed c.args.self.now c.self.view_is
    (put_index field old new d.tree.root to cell long
    (subst (λ (x : List ℕ). Changes (index_form field) old new d.tree.root to (with_cell x)) (c.deref.ensures.value ∙ items)
    (subst (λ (w : ℕ). Changes (plain_form w) old new d.tree.root to (with_cell c.deref.result.now)) c.self.invariant.0 (c.in_ok-insert.ensures.inserts tied).changes)))
