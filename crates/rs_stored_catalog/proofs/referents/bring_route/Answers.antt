-- The referents that are seen on the route, and the tree that they lie in.
use Rattle.std.proofs.Common.{◌≡◌, ℕ, inl, inr, filter}
use Rattle.std.proofs.lemmas.Result.{err_from_is_err_and}
use Rattle.rs_pages.specs.Store.{Store}
use Rattle.rs_refusal.specs.declared.refusal.Refusal.{Refusal}
use Rattle.rs_refusal.specs.declared.refusal.Refusal.TheVariants as refusal
use Rattle.rs_tree.specs.Calls.{RefusesToRead}
use Rattle.rs_tree.specs.Form.{Form}
use Rattle.rs_tree.specs.Tree.{IsNoTree}
use Rattle.rs_tree.proofs.Loading.{on_ok}
use Rattle.rs_versioned.specs.Referents.{is_referent_of, referent_form}
use Rattle.rs_stored_catalog.proofs.referents.bring_route.Goals as goal

-- where what is read is damaged, no tree is there
no_tree : (tied : Type 0) (form : Form) (root : ℕ) (why : Refusal) (old new : Store) → RefusesToRead tied form root why old new → why ≡ refusal.DamagedFile → tied → IsNoTree form old.map root
no_tree tied form root why old new refused is honest = elim refused.cause [
  | inl other ↦ absurd (cc (is, other))
  | inr (inl other) ↦ absurd (cc (is, other))
  | inr (inr both) ↦ both.1 honest
]

pub returns-in_err-cells-clause-damaged : goal.returns-in_err-cells-clause-damaged
returns-in_err-cells-clause-damaged g c = λ tied is below referents used accepted holds are.
    let p = err_from_is_err_and c.from_residual.result c.from_residual.ensures.1 in
    let why : c.in_err-cells.field-0.0 ≡ refusal.DamagedFile = cc (p.1, p.2, is) in
    (no_tree (g.P.Pages.is_tied c.args.pages.now) referent_form c.args.table.now.working.root c.in_err-cells.field-0.0 (g.P.Pages.store c.args.pages.now) (g.P.Pages.store c.visible.new.pages)
    c.in_err-cells.ensures.refused why tied).none holds.cells used holds.holds.tree

pub returns-clause-brings : goal.returns-clause-brings
returns-clause-brings g c = λ tied.
    on_ok c.put_cells.result c.put_cells.ensures.puts (λ puts referents used accepted holds distinct.
    puts (filter (is_referent_of c.args.version c.args.number) referents) (c.in_ok-cells.ensures.found tied referents used accepted holds) distinct)

pub returns-clause-damaged : goal.returns-clause-damaged
returns-clause-damaged g c = λ tied is below referents used accepted holds are.
    c.put_cells.ensures.damaged is (filter (is_referent_of c.args.version c.args.number) referents) (c.in_ok-cells.ensures.found tied referents used accepted holds) are
