-- The tree's form is that of its layout.
use Rattle.std.proofs.Common.{ℕ, subst}
use Rattle.rs_tree.specs.Form.{form_of}
use Rattle.rs_tree.specs.Forms.{form}
use Rattle.rs_tree_remove.specs.Calls.{IsTakenOut}
use Rattle.rs_btree.specs.Rooted.{Rooted}
use Rattle.rs_btree.proofs.tree.Tree.remove.Goals as goal

pub returns-clause-removes : goal.returns-clause-removes
returns-clause-removes g c = λ tied.
    subst (λ (tree : Rooted). IsTakenOut (form g.S.Summary tree.width) (g.P.Pages.store c.args.pages.now).map (g.P.Pages.store c.remove.new.pages).map tree.root c.in_ok-root.root c.args.cell.now c.in_ok-root.found) c.self.view_is
    (subst (λ (summary : ℕ). IsTakenOut (form_of g.S.Summary.says g.S.Summary.unit g.S.Summary.join g.S.Summary.of summary c.self.inside.layout.width) (g.P.Pages.store c.args.pages.now).map (g.P.Pages.store c.remove.new.pages).map c.self.inside.root c.in_ok-root.root c.args.cell.now c.in_ok-root.found) c.self.invariant (c.in_ok-root.ensures.removes tied))
