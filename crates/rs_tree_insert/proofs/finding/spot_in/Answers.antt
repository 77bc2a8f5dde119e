-- What was read is a leaf or an inner page.
use Rattle.std.proofs.Common.{subst}
use Rattle.rs_page.specs.declared.header.PageKind.TheVariants as kind
use Rattle.rs_tree.specs.Layouts.{entry_bytes}
use Rattle.rs_tree.specs.Node.{IsNode}
use Rattle.rs_tree.specs.declared.node.Node.TheVariants.{Leaf, Inner}
use Rattle.rs_tree.proofs.Entering.{records_fit}
use Rattle.rs_tree_insert.proofs.finding.spot_in.Goals as goal

pub leaf_spot-requires : goal.leaf_spot-requires
leaf_spot-requires c =
    let node : IsNode c.args.page.now.bytes c.args.number c.args.layout (Leaf c.in-Some-Leaf.count) =
    subst (IsNode c.args.page.now.bytes c.args.number c.args.layout) c.in-Some-Leaf.field-0-is c.in-Some-Leaf.ensures.found in
    records_fit c.args.page.now.bytes kind.Leaf c.args.number c.in-Some-Leaf.count c.args.layout.width node.0

pub inner_spot-requires-clause-fit : goal.inner_spot-requires-clause-fit
inner_spot-requires-clause-fit c =
    let node : IsNode c.args.page.now.bytes c.args.number c.args.layout (Inner c.in-Some-Inner.count) =
    subst (IsNode c.args.page.now.bytes c.args.number c.args.layout) c.in-Some-Inner.field-0-is c.in-Some-Inner.ensures.found in
    records_fit c.args.page.now.bytes kind.Inner c.args.number c.in-Some-Inner.count (entry_bytes c.args.layout) node.0

pub returns-in-Some-Leaf-clause-found : goal.returns-in-Some-Leaf-clause-found
returns-in-Some-Leaf-clause-found c =
    c.leaf_spot.ensures c.args.number c.args.entry.now
    (subst (IsNode c.args.page.now.bytes c.args.number c.args.layout) c.in-Some-Leaf.field-0-is c.in-Some-Leaf.ensures.found)

pub returns-in-Some-Inner-clause-found : goal.returns-in-Some-Inner-clause-found
returns-in-Some-Inner-clause-found c =
    c.inner_spot.ensures c.args.number
    (subst (IsNode c.args.page.now.bytes c.args.number c.args.layout) c.in-Some-Inner.field-0-is c.in-Some-Inner.ensures.found)
