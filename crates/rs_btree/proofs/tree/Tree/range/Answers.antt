-- The tree's form is that of its layout.
use Rattle.std.proofs.Common.{◌≡◌, ℕ, List, IfOk, subst}
use Rattle.rs_records.specs.Listed.{listed}
use Rattle.rs_tree.specs.Cells.{cells_within}
use Rattle.rs_tree.specs.Form.{form_of}
use Rattle.rs_tree.specs.Tree.{IsTree}
use Rattle.rs_tree.specs.Forms.{form}
use Rattle.rs_btree.specs.Rooted.{Rooted}
use Rattle.rs_btree.proofs.tree.Tree.range.Goals as goal

pub returns-clause-found : goal.returns-clause-found
returns-clause-found g c = λ tied.
    subst (λ (tree : Rooted). IfOk c.range.result (λ found. (cells : List (List ℕ)) (used : ℕ → ℕ)
    → IsTree (form g.S.Summary tree.width) (g.P.Pages.store c.args.pages.now).map tree.root cells used
    → listed found ≡ cells_within c.args.low.now c.args.high.now cells)) c.self.view_is
    (subst (λ (summary : ℕ). IfOk c.range.result (λ found. (cells : List (List ℕ)) (used : ℕ → ℕ)
    → IsTree (form_of g.S.Summary.says g.S.Summary.unit g.S.Summary.join g.S.Summary.of summary c.self.inside.layout.width) (g.P.Pages.store c.args.pages.now).map c.self.inside.root cells used
    → listed found ≡ cells_within c.args.low.now c.args.high.now cells)) c.self.invariant (c.range.ensures.found tied))
