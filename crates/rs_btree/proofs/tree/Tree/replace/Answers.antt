-- The tree's form is that of its layout.
use Rattle.std.proofs.Common.{ℕ, subst}
use Rattle.rs_tree.specs.Form.{form_of}
use Rattle.rs_tree.specs.Forms.{form}
use Rattle.rs_btree.specs.Calls.{IsReplaced}
use Rattle.rs_btree.specs.Rooted.{Rooted}
use Rattle.rs_btree.proofs.tree.Tree.replace.Goals as goal

pub returns-clause-replaces : goal.returns-clause-replaces
returns-clause-replaces g c = λ tied.
    subst (λ (tree : Rooted). IsReplaced (form g.S.Summary tree.width) (g.P.Pages.store c.args.pages.now).map (g.P.Pages.store c.replace.new.pages).map tree.root c.in_ok-root.root c.args.cell.now c.args.other.now c.in_ok-root.found) c.self.view_is
    (subst (λ (summary : ℕ). IsReplaced (form_of g.S.Summary.says g.S.Summary.unit g.S.Summary.join g.S.Summary.of summary c.self.inside.layout.width) (g.P.Pages.store c.args.pages.now).map (g.P.Pages.store c.replace.new.pages).map c.self.inside.root c.in_ok-root.root c.args.cell.now c.args.other.now c.in_ok-root.found) c.self.invariant (c.in_ok-root.ensures.replaces tied))
