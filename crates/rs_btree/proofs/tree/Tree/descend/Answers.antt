-- The tree's form is that of its layout.
use Rattle.std.proofs.Common.{ℕ, IfOk, subst}
use Rattle.rs_records.specs.Listed.{listed}
use Rattle.rs_tree.specs.Calls.{Finds}
use Rattle.rs_tree.specs.Form.{form_of}
use Rattle.rs_tree.specs.Forms.{form}
use Rattle.rs_btree.specs.Rooted.{Rooted}
use Rattle.rs_btree.proofs.tree.Tree.descend.Goals as goal

pub returns-clause-found : goal.returns-clause-found
returns-clause-found g c = λ tied test computes accepts.
    subst (λ (tree : Rooted). IfOk c.descend.result (λ found. Finds
    (form g.S.Summary tree.width) (g.P.Pages.store c.args.pages.now).map tree.root
    c.args.low.now c.args.high.now (λ cell. test (g.S.Summary.of cell)) (listed found.0) found.1)) c.self.view_is
    (subst (λ (summary : ℕ). IfOk c.descend.result (λ found. Finds
    (form_of g.S.Summary.says g.S.Summary.unit g.S.Summary.join g.S.Summary.of summary c.self.inside.layout.width) (g.P.Pages.store c.args.pages.now).map c.self.inside.root
    c.args.low.now c.args.high.now (λ cell. test (g.S.Summary.of cell)) (listed found.0) found.1)) c.self.invariant (c.descend.ensures.found tied test computes accepts))
