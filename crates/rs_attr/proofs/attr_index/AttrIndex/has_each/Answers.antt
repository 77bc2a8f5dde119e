-- The tree is asked whether it has the entries.
use Rattle.std.proofs.Common.{ℕ, IfErr, IfOk, subst}
use Rattle.rs_attr.specs.Entries.{Field, index_form, plain_form}
use Rattle.rs_attr.proofs.Indexes.{in_index}
use Rattle.rs_attr.proofs.Reordered.{Tells}
use Rattle.rs_cell_versions.specs.BtreeCalls.{TellsIfHeld}
use Rattle.rs_records.specs.Listed.{listed}
use Rattle.rs_tree.specs.Calls.{RefusesToRead}
use Rattle.rs_attr.proofs.attr_index.AttrIndex.has_each.Goals as goal

pub returns-clause-refused : goal.returns-clause-refused
returns-clause-refused g c =
    let d = c.self.inside in
    let before = g.P.Pages.store c.args.pages.now in
    let after = g.P.Pages.store c.has_each.new.pages in
    let tied = g.P.Pages.is_tied c.args.pages.now in
    in_index (λ (f : Field) (working : ℕ). IfErr c.has_each.result (λ why. RefusesToRead tied (index_form f) working why before after))
    d.column d.start d.cell_width d.tree.root d.committed c.args.self.now c.self.view_is
    (subst (λ (w : ℕ). IfErr c.has_each.result (λ why. RefusesToRead tied (plain_form w) d.tree.root why before after)) c.self.invariant.0 c.has_each.ensures.refused)

pub returns-clause-found : goal.returns-clause-found
returns-clause-found g c = λ tied.
    let d = c.self.inside in
    let pages = (g.P.Pages.store c.args.pages.now).map in
    let entries = listed c.args.entries.now in
    in_index (λ (f : Field) (working : ℕ). IfOk c.has_each.result (Tells f pages working entries)) d.column d.start d.cell_width d.tree.root d.committed c.args.self.now c.self.view_is
    (subst (λ (w : ℕ). IfOk c.has_each.result (TellsIfHeld (plain_form w) pages d.tree.root entries)) c.self.invariant.0 (c.has_each.ensures.found tied))
