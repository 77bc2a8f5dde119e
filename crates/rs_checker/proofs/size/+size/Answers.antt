use Rattle.std.proofs.Common.{inl, inr, sym, ap, ◌∙◌, arith}
use Rattle.rs_syntax.specs.QueryView.{query_tree}
use Rattle.rs_machine.specs.Opening.{nodes, depth, opened_times}
use Rattle.rs_catalog.specs.Definitions.{views_of}
use Rattle.rs_checker.specs.NodeView.{opened_tree}
use Rattle.rs_checker.specs.Sizes.{nodes_left}
use Rattle.rs_checker.proofs.QueryLaws.{nodes_unary, nodes_binary, depth_unary, depth_binary}
use Rattle.rs_checker.proofs.SizeLaws.{some_nodes, some_depth, one_more, none_left, name_left}
use Rattle.rs_checker.proofs.size.+size.Goals as goal
use Rattle.rs_checker.proofs.size.+size.Goals.{nodes_left-then-nodes-eq0-via-then-nodes-eq0, nodes_left-then-nodes-eq0-via-else-nodes-eq0+then-depth-eq0}

pub nodes_left-returns-then-nodes-eq0 : goal.nodes_left-returns-then-nodes-eq0
nodes_left-returns-then-nodes-eq0 t c =
    let tree = opened_times c.args.openings (views_of c.args.catalog.now) (query_tree c.args.query.now) in
    none_left c.args.nodes c.args.depth (nodes tree) (depth tree) (elim c.then-nodes-eq0.branch [
      | nodes_left-then-nodes-eq0-via-then-nodes-eq0 w ↦ inl w.if-nodes-eq0.true
      | nodes_left-then-nodes-eq0-via-else-nodes-eq0+then-depth-eq0 w ↦ inr w.if-depth-eq0.true
    ]) (some_nodes tree) (some_depth tree)

pub nodes_left-returns-in-Named : goal.nodes_left-returns-in-Named
nodes_left-returns-in-Named t c =
    name_left c.args.nodes c.args.depth (omega (arith, c.if-nodes-eq0.false)) (omega (arith, c.if-depth-eq0.false))
    ∙ ap (nodes_left c.args.nodes c.args.depth) (sym (c.opened_node-openings.ensures.opened ∙ ap (opened_tree (views_of c.args.catalog.now) c.opened_node-openings.result.1) c.in-Named.is))

pub nodes_left-nodes_left-requires : goal.nodes_left-nodes_left-requires
nodes_left-nodes_left-requires t c =
    let tree = opened_times c.opened_node-openings.result.1 (views_of c.args.catalog.now) (query_tree c.in-Unary.operand.now) in
    let e = ap nodes (c.opened_node-openings.ensures.opened ∙ ap (opened_tree (views_of c.args.catalog.now) c.opened_node-openings.result.1) c.in-Unary.is) ∙ nodes_unary c.in-Unary.field-0 tree in
    (omega (arith, e, c.opened_node-openings.ensures.fewer, c.decreases), tt)

pub nodes_left-returns-in-Unary : goal.nodes_left-returns-in-Unary
nodes_left-returns-in-Unary t c =
    let tree = opened_times c.opened_node-openings.result.1 (views_of c.args.catalog.now) (query_tree c.in-Unary.operand.now) in
    let e = c.opened_node-openings.ensures.opened ∙ ap (opened_tree (views_of c.args.catalog.now) c.opened_node-openings.result.1) c.in-Unary.is in
    c.nodes_left.ensures ∙ one_more c.args.nodes c.args.depth _ _ _ _ c.if-nodes-eq0.false c.if-depth-eq0.false (ap nodes e ∙ nodes_unary c.in-Unary.field-0 tree) (ap depth e ∙ depth_unary c.in-Unary.field-0 tree)

pub nodes_left-pair_left-requires : goal.nodes_left-pair_left-requires
nodes_left-pair_left-requires t c =
    let left = opened_times c.opened_node-openings.result.1 (views_of c.args.catalog.now) (query_tree c.in-Binary.left.now) in
    let right = opened_times c.opened_node-openings.result.1 (views_of c.args.catalog.now) (query_tree c.in-Binary.right.now) in
    let e = ap nodes (c.opened_node-openings.ensures.opened ∙ ap (opened_tree (views_of c.args.catalog.now) c.opened_node-openings.result.1) c.in-Binary.is) ∙ nodes_binary c.in-Binary.field-0 left right in
    (omega (arith, e, c.opened_node-openings.ensures.fewer, c.decreases), tt)

pub nodes_left-returns-in-Binary : goal.nodes_left-returns-in-Binary
nodes_left-returns-in-Binary t c =
    let left = opened_times c.opened_node-openings.result.1 (views_of c.args.catalog.now) (query_tree c.in-Binary.left.now) in
    let right = opened_times c.opened_node-openings.result.1 (views_of c.args.catalog.now) (query_tree c.in-Binary.right.now) in
    let e = c.opened_node-openings.ensures.opened ∙ ap (opened_tree (views_of c.args.catalog.now) c.opened_node-openings.result.1) c.in-Binary.is in
    c.pair_left.ensures ∙ one_more c.args.nodes c.args.depth _ _ _ _ c.if-nodes-eq0.false c.if-depth-eq0.false (ap nodes e ∙ nodes_binary c.in-Binary.field-0 left right) (ap depth e ∙ depth_binary c.in-Binary.field-0 left right)
