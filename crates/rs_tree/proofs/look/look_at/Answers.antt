-- The cells of a leaf fit it, and so do the entries of an inner page.
use Rattle.std.proofs.Common.{rules}
use Rattle.rs_page.specs.declared.header.PageKind.TheVariants as kind
use Rattle.rs_tree.specs.Layouts.{entry_bytes}
use Rattle.rs_tree.specs.Node.{IsNode}
use Rattle.rs_tree.specs.declared.node.Node.TheVariants.{Leaf, Inner}
use Rattle.rs_tree.proofs.Entering.{records_fit}
use Rattle.rs_tree.proofs.look.look_at.Goals as goal

pub collect-requires-clause-fit : goal.collect-requires-clause-fit
collect-requires-clause-fit g c =
    let node : IsNode c.args.page.now.bytes c.args.number c.args.wanted.now.layout (Leaf c.in-Some-Leaf.count) = search rules in
    records_fit c.args.page.now.bytes kind.Leaf c.args.number c.in-Some-Leaf.count c.args.wanted.now.layout.width node.0

pub take_entries-requires : goal.take_entries-requires
take_entries-requires g c =
    let node : IsNode c.args.page.now.bytes c.args.number c.args.wanted.now.layout (Inner c.in-Some-Inner.count) = search rules in
    record {
      fit = records_fit c.args.page.now.bytes kind.Inner c.args.number c.in-Some-Inner.count (entry_bytes c.args.wanted.now.layout) node.0;
    }
