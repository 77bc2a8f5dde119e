-- The tree of the entries is checked.
use Rattle.std.proofs.Common.{ℕ, subst}
use Rattle.rs_attr.specs.Entries.{Field, index_form, plain_form}
use Rattle.rs_attr.proofs.Indexes.{in_index}
use Rattle.rs_page_marks.specs.Marks.{taken}
use Rattle.rs_tree_whole.specs.Calls.{IsChecked}
use Rattle.rs_attr.proofs.attr_index.AttrIndex.validate.Goals as goal

pub returns-clause-checks : goal.returns-clause-checks
returns-clause-checks g c = λ tied.
    let d = c.self.inside in
    let pages = (g.P.Pages.store c.args.pages.now).map in
    let before = taken c.args.reached.now in
    let after = taken c.validate.new.reached in
    in_index (λ (f : Field) (working : ℕ). IsChecked (index_form f) pages working before after c.validate.result) d.column d.start d.cell_width d.tree.root d.committed c.args.self.now c.self.view_is
    (subst (λ (w : ℕ). IsChecked (plain_form w) pages d.tree.root before after c.validate.result) c.self.invariant.0 (c.validate.ensures.checks tied))
