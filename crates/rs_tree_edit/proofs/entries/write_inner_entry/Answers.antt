-- The summary is that of the entries joined, and the least cell the first entry's.
use Rattle.std.proofs.Common.{◌≡◌, ◌<◌, drop, ap, ◌∙◌, arith}
use Rattle.std.proofs.lemmas.List.{take_rest}
use Rattle.rs_page.specs.declared.header.PageKind.TheVariants as kind
use Rattle.rs_tree.specs.Content.{content}
use Rattle.rs_tree.specs.Form.{least_from}
use Rattle.rs_tree.specs.Layouts.{entry_bytes}
use Rattle.rs_tree.proofs.Entering.{records_fit, entry_there}
use Rattle.rs_tree_edit.proofs.Saying.{inner_said}
use Rattle.rs_tree_edit.proofs.entries.write_inner_entry.Goals as goal

pub inner_summary-whole-requires-clause-fit : goal.inner_summary-whole-requires-clause-fit
inner_summary-whole-requires-clause-fit g c = records_fit c.args.page.now.bytes kind.Inner c.args.number c.args.count (entry_bytes c.args.layout) c.requires.node.0

pub returns : goal.returns
returns g c =
    let first = c.record_at-first.result.now in
    let inside : 0 < c.args.count = omega (arith, c.requires.node.1) in
    let there = entry_there c.args.count c.entry_width.result (entry_bytes c.args.layout) c.content.result.now (content c.args.page.now.bytes) 0 first c.entry_width.ensures.width c.content.ensures.bytes (c.record_at-first.ensures.one c.args.count inside) in
    let least : drop (least_from c.args.layout.summary) c.write_entry.new.entry ≡ drop (least_from c.args.layout.summary) first =
    c.write_entry.ensures.least ∙ take_rest first c.least_from.result ∙ ap (λ n. drop n first) c.least_from.ensures.least in
    inner_said g.S.Summary.unit g.S.Summary.join g.S.Summary.of g.S.Summary.says c.args.layout.summary c.args.layout.width c.args.number c.args.count c.args.page.now.bytes c.write_entry.new.entry c.inner_summary-whole.result
    c.write_entry.ensures.child c.write_entry.ensures.summary first c.requires.node.0 c.inner_summary-whole.ensures there least
