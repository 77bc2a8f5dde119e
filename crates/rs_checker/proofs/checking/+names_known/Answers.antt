use Rattle.std.proofs.Common.{sym, ap, ◌∙◌, arith}
use Rattle.std.proofs.lemmas.Result.{err_from_is_err_and}
use Rattle.rs_syntax.specs.QueryView.{query_tree}
use Rattle.rs_machine.specs.Checks.{◌>>=◌}
use Rattle.rs_machine.specs.Opening.{names_in, nodes}
use Rattle.rs_checker.specs.NodeView.{node_tree}
use Rattle.rs_checker.specs.Nodes.{names_there}
use Rattle.rs_checker.proofs.NodeLaws.{there_append}
use Rattle.rs_checker.proofs.QueryLaws.{names_unary, names_binary, nodes_unary, nodes_binary}
use Rattle.rs_checker.proofs.checking.+names_known.Goals as goal

pub returns-in-Named : goal.returns-in-Named
returns-in-Named t c = c.name_known.ensures ∙ ap (λ tree. names_there c.args.catalog.now (names_in tree)) (sym (c.top_node.ensures ∙ ap node_tree c.in-Named.is))

pub names_known-requires : goal.names_known-requires
names_known-requires t c =
    let e = ap nodes (c.top_node.ensures ∙ ap node_tree c.in-Unary.is) ∙ nodes_unary c.in-Unary.field-0 (query_tree c.in-Unary.operand.now) in
    (omega (arith, e, c.decreases), tt)

pub returns-in-Unary : goal.returns-in-Unary
returns-in-Unary t c =
    c.names_known.ensures ∙ ap (names_there c.args.catalog.now) (sym (ap names_in (c.top_node.ensures ∙ ap node_tree c.in-Unary.is) ∙ names_unary c.in-Unary.field-0 (query_tree c.in-Unary.operand.now)))

pub names_known-requires-in-Binary : goal.names_known-requires-in-Binary
names_known-requires-in-Binary t c =
    let e = ap nodes (c.top_node.ensures ∙ ap node_tree c.in-Binary.is) ∙ nodes_binary c.in-Binary.field-0 (query_tree c.in-Binary.left.now) (query_tree c.in-Binary.right.now) in
    (omega (arith, e, c.decreases), tt)

pub names_known-requires-in-Binary-2 : goal.names_known-requires-in-Binary-2
names_known-requires-in-Binary-2 t c =
    let e = ap nodes (c.top_node.ensures ∙ ap node_tree c.in-Binary.is) ∙ nodes_binary c.in-Binary.field-0 (query_tree c.in-Binary.left.now) (query_tree c.in-Binary.right.now) in
    (omega (arith, e, c.decreases), tt)

pub returns-in_err-names_known-in-Binary : goal.returns-in_err-names_known-in-Binary
returns-in_err-names_known-in-Binary t c =
    let p = err_from_is_err_and c.from_residual.result c.from_residual.ensures.1 in
    let left = query_tree c.in-Binary.left.now in
    let right = query_tree c.in-Binary.right.now in
    rw (p.1, p.2) (sym (ap (names_there c.args.catalog.now) (ap names_in (c.top_node.ensures ∙ ap node_tree c.in-Binary.is) ∙ names_binary c.in-Binary.field-0 left right) ∙ there_append c.args.catalog.now (names_in left) (names_in right)
    ∙ ap (λ r. r >>= (λ _. names_there c.args.catalog.now (names_in right))) (sym c.names_known-in-Binary.ensures ∙ c.in_err-names_known-in-Binary.was)))

pub returns-in_ok-names_known-in-Binary : goal.returns-in_ok-names_known-in-Binary
returns-in_ok-names_known-in-Binary t c =
    let left = query_tree c.in-Binary.left.now in
    let right = query_tree c.in-Binary.right.now in
    c.names_known-in-Binary-2.ensures ∙ sym (ap (names_there c.args.catalog.now) (ap names_in (c.top_node.ensures ∙ ap node_tree c.in-Binary.is) ∙ names_binary c.in-Binary.field-0 left right) ∙ there_append c.args.catalog.now (names_in left) (names_in right)
    ∙ ap (λ r. r >>= (λ _. names_there c.args.catalog.now (names_in right))) (sym c.names_known-in-Binary.ensures ∙ c.in_ok-names_known-in-Binary.was))
