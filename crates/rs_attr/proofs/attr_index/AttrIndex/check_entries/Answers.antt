-- The entries are those of the cells in another order.
use Rattle.std.proofs.Common.{◌≡◌, ◌∙◌, Bool, sym, subst, inl, inr}
use Rattle.std.proofs.lemmas.Result.{err_from_is_err_and}
use Rattle.rs_attr.proofs.Checked.{no_tree_lacks}
use Rattle.rs_attr.proofs.Reordered.{Tells, each_has, one_lacks}
use Rattle.rs_refusal.specs.declared.refusal.Refusal.TheVariants as refusal
use Rattle.rs_records.specs.Listed.{listed}
use Rattle.rs_attr.proofs.attr_index.AttrIndex.check_entries.Goals as goal

pub returns-in_err-has_each-clause-looks_up : goal.returns-in_err-has_each-clause-looks_up
returns-in_err-has_each-clause-looks_up g c = λ tied.
    let index = c.args.self.now in
    let p = err_from_is_err_and c.from_residual-in_err-has_each.result c.from_residual-in_err-has_each.ensures.1 in
    record {
      entered = rw (p.1) tt;
      damaged = λ is.
          let why : c.in_err-has_each.field-0.0 ≡ refusal.DamagedFile = cc (p.1, p.2, is) in
          elim c.in_err-has_each.ensures.refused.cause [
            | inl other ↦ let clash : refusal.OutOfMemory ≡ refusal.DamagedFile = sym other ∙ why in absurd (cc)
            | inr (inl other) ↦ let clash : refusal.Disk ≡ refusal.DamagedFile = sym other ∙ why in absurd (cc)
            | inr (inr none) ↦ no_tree_lacks index.field (g.P.Pages.store c.args.pages.now).map index.working (listed c.args.cells.now) (none.1 tied)
          ];
    }

pub returns-then-branch-clause-looks_up : goal.returns-then-branch-clause-looks_up
returns-then-branch-clause-looks_up g c = λ tied.
    let index = c.args.self.now in
    let pages = (g.P.Pages.store c.args.pages.now).map in
    let entries = listed c.in_ok-entries.entries in
    record {
      entered = each_has index.field pages index.working (listed c.args.cells.now) entries c.in_ok-entries.ensures.moved
          (subst (λ (b : Bool). Tells index.field pages index.working entries b) c.if-branch.true (c.in_ok-has_each.ensures.found tied));
      damaged = λ is. absurd (cc);
    }

pub returns-clause-looks_up : goal.returns-clause-looks_up
returns-clause-looks_up g c = λ tied.
    let index = c.args.self.now in
    let pages = (g.P.Pages.store c.args.pages.now).map in
    let entries = listed c.in_ok-entries.entries in
    record {
      entered = tt;
      damaged = λ is. one_lacks index.field pages index.working (listed c.args.cells.now) entries c.in_ok-entries.ensures.moved
          (subst (λ (b : Bool). Tells index.field pages index.working entries b) c.if-branch.false (c.in_ok-has_each.ensures.found tied));
    }
