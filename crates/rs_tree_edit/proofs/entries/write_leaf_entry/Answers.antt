-- The summary and the least cell are those of the records.
use Rattle.std.proofs.Common.{◌≡◌, Some, drop, slice_get, sym, ap, ◌∙◌}
use Rattle.rs_page.specs.declared.header.PageKind.TheVariants as kind
use Rattle.rs_records.specs.Records.{records}
use Rattle.rs_tree.specs.Content.{content}
use Rattle.rs_tree.specs.Form.{least_from}
use Rattle.rs_tree.proofs.Entering.{records_fit}
use Rattle.rs_tree_edit.proofs.Saying.{leaf_said}
use Rattle.rs_tree_edit.proofs.entries.write_leaf_entry.Goals as goal

pub leaf_summary-whole-requires : goal.leaf_summary-whole-requires
leaf_summary-whole-requires g c = records_fit c.args.page.now.bytes kind.Leaf c.args.number c.args.count c.args.layout.width c.requires.node.0

pub returns : goal.returns
returns g c =
    let first = c.record_at-least.ensures.one c.args.count c.requires.node.1 in
    let there : slice_get (records c.args.count c.args.layout.width (content c.args.page.now.bytes)) 0 ≡ Some (drop (least_from c.args.layout.summary) c.write_entry.new.entry) =
    ap (λ bytes. slice_get (records c.args.count c.args.layout.width bytes) 0) (sym c.content.ensures.bytes) ∙ first ∙ ap (λ xs. Some xs) (sym c.write_entry.ensures.least) in
    leaf_said g.S.Summary.unit g.S.Summary.join g.S.Summary.of g.S.Summary.says c.args.layout.summary c.args.layout.width c.args.number c.args.count c.args.page.now.bytes c.write_entry.new.entry c.leaf_summary-whole.result
    c.write_entry.ensures.child c.write_entry.ensures.summary c.requires.node.0 c.leaf_summary-whole.ensures there
