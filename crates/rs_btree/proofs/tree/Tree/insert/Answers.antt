-- The tree's form is that of its layout.
use Rattle.std.proofs.Common.{ℕ, subst}
use Rattle.rs_tree.specs.Form.{form_of}
use Rattle.rs_tree.specs.Forms.{form}
use Rattle.rs_tree_insert.specs.Calls.{IsInserted}
use Rattle.rs_btree.specs.Rooted.{Rooted}
use Rattle.rs_btree.proofs.tree.Tree.insert.Goals as goal

pub returns-clause-inserts : goal.returns-clause-inserts
returns-clause-inserts g c = λ tied.
    subst (λ (tree : Rooted). IsInserted (form g.S.Summary tree.width) (g.P.Pages.store c.args.pages.now).map (g.P.Pages.store c.insert.new.pages).map tree.root c.in_ok-inserted.inserted.root c.args.cell.now c.in_ok-inserted.inserted.new) c.self.view_is
    (subst (λ (summary : ℕ). IsInserted (form_of g.S.Summary.says g.S.Summary.unit g.S.Summary.join g.S.Summary.of summary c.self.inside.layout.width) (g.P.Pages.store c.args.pages.now).map (g.P.Pages.store c.insert.new.pages).map c.self.inside.root c.in_ok-inserted.inserted.root c.args.cell.now c.in_ok-inserted.inserted.new) c.self.invariant (c.in_ok-inserted.ensures.inserts tied))
