-- The tree's form is that of its layout.
use Rattle.std.proofs.Common.{ℕ, subst}
use Rattle.rs_page_marks.specs.Marks.{taken}
use Rattle.rs_tree.specs.Form.{form_of}
use Rattle.rs_tree.specs.Forms.{form}
use Rattle.rs_tree_whole.specs.Calls.{IsChecked}
use Rattle.rs_btree.specs.Rooted.{Rooted}
use Rattle.rs_btree.proofs.tree.Tree.validate.Goals as goal

pub returns-clause-checks : goal.returns-clause-checks
returns-clause-checks g c = λ tied.
    subst (λ (tree : Rooted). IsChecked (form g.S.Summary tree.width) (g.P.Pages.store c.args.pages.now).map tree.root (taken c.args.reached.now) (taken c.validate.new.reached) c.validate.result) c.self.view_is
    (subst (λ (summary : ℕ). IsChecked (form_of g.S.Summary.says g.S.Summary.unit g.S.Summary.join g.S.Summary.of summary c.self.inside.layout.width) (g.P.Pages.store c.args.pages.now).map c.self.inside.root (taken c.args.reached.now) (taken c.validate.new.reached) c.validate.result) c.self.invariant (c.validate.ensures.checks tied))
