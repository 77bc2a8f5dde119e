-- The tree's form is that of its layout.
use Rattle.std.proofs.Common.{ℕ, IfOk, subst}
use Rattle.rs_records.specs.Listed.{listed}
use Rattle.rs_tree.specs.Form.{form_of}
use Rattle.rs_tree.specs.Forms.{form}
use Rattle.rs_btree.specs.Calls.{TellsIfHeld}
use Rattle.rs_btree.specs.Rooted.{Rooted}
use Rattle.rs_btree.proofs.tree.Tree.has_each.Goals as goal

pub returns-clause-found : goal.returns-clause-found
returns-clause-found g c = λ tied.
    subst (λ (tree : Rooted). IfOk c.has_each.result (TellsIfHeld (form g.S.Summary tree.width) (g.P.Pages.store c.args.pages.now).map tree.root (listed c.args.cells.now))) c.self.view_is
    (subst (λ (summary : ℕ). IfOk c.has_each.result (TellsIfHeld
    (form_of g.S.Summary.says g.S.Summary.unit g.S.Summary.join g.S.Summary.of summary c.self.inside.layout.width) (g.P.Pages.store c.args.pages.now).map c.self.inside.root (listed c.args.cells.now))) c.self.invariant (c.has_each.ensures.found tied))
