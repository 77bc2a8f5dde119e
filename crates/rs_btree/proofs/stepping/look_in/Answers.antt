-- A leaf tells whether it has the cells, and an inner page leads where its entries lead.
use Rattle.std.proofs.Common.{List, ℕ, subst, arith}
use Rattle.rs_page.specs.declared.header.PageKind.TheVariants as kind
use Rattle.rs_records.specs.Listed.{listed}
use Rattle.rs_records.specs.Order.{Ascends}
use Rattle.rs_records.specs.Records.{records}
use Rattle.rs_tree.specs.Form.{joined}
use Rattle.rs_tree.specs.Layouts.{entry_bytes}
use Rattle.rs_tree.specs.Node.{IsNode}
use Rattle.rs_tree.specs.declared.node.Node.TheVariants.{Leaf, Inner}
use Rattle.rs_tree.proofs.Entering.{records_fit}
use Rattle.rs_btree.specs.Looking.{IsFirst}
use Rattle.rs_btree.proofs.Pages.{inner_leads, leaf_leads}
use Rattle.rs_btree.proofs.stepping.look_in.Goals as goal

pub missing_in_leaf-place-requires-clause-fit : goal.missing_in_leaf-place-requires-clause-fit
missing_in_leaf-place-requires-clause-fit g c =
    let node : IsNode c.args.page.now.bytes c.args.number c.args.layout (Leaf c.in-Some-Leaf.count) =
    subst (IsNode c.args.page.now.bytes c.args.number c.args.layout) c.in-Some-Leaf.field-0-is c.in-Some-Leaf.ensures.found in
    omega (arith, records_fit c.args.page.now.bytes kind.Leaf c.args.number c.in-Some-Leaf.count c.args.layout.width node.0, c.content.ensures.size)

pub step_below-requires-clause-fit : goal.step_below-requires-clause-fit
step_below-requires-clause-fit g c =
    let node : IsNode c.args.page.now.bytes c.args.number c.args.layout (Inner c.in-Some-Inner.count) =
    subst (IsNode c.args.page.now.bytes c.args.number c.args.layout) c.in-Some-Inner.field-0-is c.in-Some-Inner.ensures.found in
    records_fit c.args.page.now.bytes kind.Inner c.args.number c.in-Some-Inner.count (entry_bytes c.args.layout) node.0

pub returns-in-Some-Leaf-clause-leads : goal.returns-in-Some-Leaf-clause-leads
returns-in-Some-Leaf-clause-leads g c = λ map lent.
    leaf_leads (λ bytes cells. g.S.Summary.says bytes (joined g.S.Summary.unit g.S.Summary.join g.S.Summary.of cells)) c.args.layout map c.args.number c.in-Some-Leaf.count
    c.args.page.now.bytes lent (listed c.args.cells.now) c.args.from c.args.to c.missing_in_leaf-place.result
    (subst (IsNode c.args.page.now.bytes c.args.number c.args.layout) c.in-Some-Leaf.field-0-is c.in-Some-Leaf.ensures.found)
    (subst (λ (bytes : List ℕ). Ascends (records c.in-Some-Leaf.count c.args.layout.width bytes)
    → IsFirst (records c.in-Some-Leaf.count c.args.layout.width bytes) (listed c.args.cells.now) c.args.from c.args.to c.missing_in_leaf-place.result)
    c.content.ensures.bytes c.missing_in_leaf-place.ensures.first)

pub returns-in-Some-Inner-clause-leads : goal.returns-in-Some-Inner-clause-leads
returns-in-Some-Inner-clause-leads g c = λ map lent.
    inner_leads (λ bytes cells. g.S.Summary.says bytes (joined g.S.Summary.unit g.S.Summary.join g.S.Summary.of cells)) c.args.layout map c.args.number c.in-Some-Inner.count
    c.args.page.now.bytes lent (listed c.args.cells.now) c.args.from c.args.to c.step_below.result
    (subst (IsNode c.args.page.now.bytes c.args.number c.args.layout) c.in-Some-Inner.field-0-is c.in-Some-Inner.ensures.found) c.step_below.ensures.leads
