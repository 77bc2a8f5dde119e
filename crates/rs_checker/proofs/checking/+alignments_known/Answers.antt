use Rattle.std.proofs.Common.{[], ◌∷◌, sym, ap, ◌∙◌, arith}
use Rattle.std.proofs.lemmas.Result.{err_from_is_err_and}
use Rattle.rs_syntax.specs.QueryView.{query_tree}
use Rattle.rs_machine.specs.Checks.{◌>>=◌}
use Rattle.rs_machine.specs.Opening.{alignments_in, nodes}
use Rattle.rs_checker.specs.NodeView.{unary_tree, node_tree}
use Rattle.rs_checker.specs.Nodes.{alignments_there}
use Rattle.rs_checker.proofs.AlignmentLaws.{aligned_append}
use Rattle.rs_checker.proofs.QueryLaws.{alignments_binary, nodes_unary, nodes_binary}
use Rattle.rs_checker.proofs.checking.+alignments_known.Goals as goal

pub alignments_known-requires-in-Binary : goal.alignments_known-requires-in-Binary
alignments_known-requires-in-Binary t c =
    let e = ap nodes (c.top_node.ensures ∙ ap node_tree c.in-Binary.is) ∙ nodes_binary c.in-Binary.field-0 (query_tree c.in-Binary.left.now) (query_tree c.in-Binary.right.now) in
    (omega (arith, e, c.decreases), tt)

pub alignments_known-requires-in-Binary-2 : goal.alignments_known-requires-in-Binary-2
alignments_known-requires-in-Binary-2 t c =
    let e = ap nodes (c.top_node.ensures ∙ ap node_tree c.in-Binary.is) ∙ nodes_binary c.in-Binary.field-0 (query_tree c.in-Binary.left.now) (query_tree c.in-Binary.right.now) in
    (omega (arith, e, c.decreases), tt)

pub returns-in_err-alignments_known-in-Binary : goal.returns-in_err-alignments_known-in-Binary
returns-in_err-alignments_known-in-Binary t c =
    let p = err_from_is_err_and c.from_residual-in_err-alignments_known-in-Binary.result c.from_residual-in_err-alignments_known-in-Binary.ensures.1 in
    let left = query_tree c.in-Binary.left.now in
    let right = query_tree c.in-Binary.right.now in
    rw (p.1, p.2) (sym (ap (alignments_there c.args.catalog.now) (ap alignments_in (c.top_node.ensures ∙ ap node_tree c.in-Binary.is) ∙ alignments_binary c.in-Binary.field-0 left right) ∙ aligned_append c.args.catalog.now (alignments_in left) (alignments_in right)
    ∙ ap (λ r. r >>= (λ _. alignments_there c.args.catalog.now (alignments_in right))) (sym c.alignments_known-in-Binary.ensures ∙ c.in_err-alignments_known-in-Binary.was)))

pub returns-in_ok-alignments_known-in-Binary : goal.returns-in_ok-alignments_known-in-Binary
returns-in_ok-alignments_known-in-Binary t c =
    let left = query_tree c.in-Binary.left.now in
    let right = query_tree c.in-Binary.right.now in
    c.alignments_known-in-Binary-2.ensures ∙ sym (ap (alignments_there c.args.catalog.now) (ap alignments_in (c.top_node.ensures ∙ ap node_tree c.in-Binary.is) ∙ alignments_binary c.in-Binary.field-0 left right) ∙ aligned_append c.args.catalog.now (alignments_in left) (alignments_in right)
    ∙ ap (λ r. r >>= (λ _. alignments_there c.args.catalog.now (alignments_in right))) (sym c.alignments_known-in-Binary.ensures ∙ c.in_ok-alignments_known-in-Binary.was))

pub alignments_known-requires : goal.alignments_known-requires
alignments_known-requires t c =
    let e = ap nodes (c.top_node.ensures ∙ ap node_tree c.in-Unary-Transform-default.is ∙ ap (λ operator. unary_tree operator (query_tree c.in-Unary-Transform-default.operand.now)) c.in-Unary-Transform-default.field-0-is) in
    (omega (arith, e, c.decreases), tt)

pub alignments_known-requires-in-Unary : goal.alignments_known-requires-in-Unary
alignments_known-requires-in-Unary t c =
    let e = ap nodes (c.top_node.ensures ∙ ap node_tree c.in-Unary.is) ∙ nodes_unary c.in-Unary.field-0 (query_tree c.in-Unary.operand.now) in
    (omega (arith, e, c.decreases), tt)

pub returns-in_err-alignments_known-in-Unary-Transform-default : goal.returns-in_err-alignments_known-in-Unary-Transform-default
returns-in_err-alignments_known-in-Unary-Transform-default t c =
    let p = err_from_is_err_and c.from_residual.result c.from_residual.ensures.1 in
    let inside = query_tree c.in-Unary-Transform-default.operand.now in
    let name = c.in-Unary-Transform-default.name.now.bytes in
    rw (p.1, p.2) (sym (ap (λ tree. alignments_there c.args.catalog.now (alignments_in tree)) (c.top_node.ensures ∙ ap node_tree c.in-Unary-Transform-default.is ∙ ap (λ operator. unary_tree operator (query_tree c.in-Unary-Transform-default.operand.now)) c.in-Unary-Transform-default.field-0-is) ∙ aligned_append c.args.catalog.now (alignments_in inside) (name ∷ [])
    ∙ ap (λ r. r >>= (λ _. alignments_there c.args.catalog.now (name ∷ []))) (sym c.alignments_known.ensures ∙ c.in_err-alignments_known-in-Unary-Transform-default.was)))

pub returns-in_ok-alignments_known-in-Unary-Transform-default : goal.returns-in_ok-alignments_known-in-Unary-Transform-default
returns-in_ok-alignments_known-in-Unary-Transform-default t c =
    let inside = query_tree c.in-Unary-Transform-default.operand.now in
    let name = c.in-Unary-Transform-default.name.now.bytes in
    c.alignment_known.ensures
    ∙ sym (ap (λ tree. alignments_there c.args.catalog.now (alignments_in tree)) (c.top_node.ensures ∙ ap node_tree c.in-Unary-Transform-default.is ∙ ap (λ operator. unary_tree operator (query_tree c.in-Unary-Transform-default.operand.now)) c.in-Unary-Transform-default.field-0-is) ∙ aligned_append c.args.catalog.now (alignments_in inside) (name ∷ [])
    ∙ ap (λ r. r >>= (λ _. alignments_there c.args.catalog.now (name ∷ []))) (sym c.alignments_known.ensures ∙ c.in_ok-alignments_known-in-Unary-Transform-default.was))
