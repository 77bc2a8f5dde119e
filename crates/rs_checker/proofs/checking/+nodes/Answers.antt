use Rattle.std.proofs.Common.{IfOk, IfErr, ◌≡◌, ◌⊎◌, inr, sym, ap, subst, ◌∙◌, arith}
use Rattle.std.proofs.lemmas.Result.{err_from_is_err_and, IfOk-weaker, IfErr-weaker}
use Rattle.rs_refusal.specs.declared.refusal.Refusal.TheVariants.{OutOfMemory}
use Rattle.rs_syntax.specs.QueryView.{query_tree}
use Rattle.rs_machine.specs.Opening as size
use Rattle.rs_machine.specs.Opening.{opened_times}
use Rattle.rs_catalog.specs.Definitions.{views_of}
use Rattle.rs_catalog.specs.Referents.{referents_on}
use Rattle.rs_checker.specs.Steps.{checked_of}
use Rattle.rs_checker.specs.NodeView.{opened_tree}
use Rattle.rs_checker.specs.Nodes.{AreNodes, AreRefused}
use Rattle.rs_checker.proofs.ConditionLaws.{or_refused}
use Rattle.rs_checker.proofs.QueryLaws.{nodes_unary, nodes_binary}
use Rattle.rs_checker.proofs.NodeLaws.{unary_inside, unary_made, unary_refused, first_inside, second_inside, binary_made, binary_refused}
use Rattle.rs_checker.proofs.checking.+nodes.Goals as goal

pub nodes-returns-in-Named-clause-ok : goal.nodes-returns-in-Named-clause-ok
nodes-returns-in-Named-clause-ok t c =
    subst (λ tree. IfOk c.table.result (λ made. AreNodes c.args.catalog.now (referents_on c.args.referents.now) tree made))
    (sym (c.opened_node-openings.ensures.opened ∙ ap (opened_tree (views_of c.args.catalog.now) c.opened_node-openings.result.1) c.in-Named.is))
    (IfOk-weaker c.table.result _ _ (λ made on. on (referents_on c.args.referents.now)) c.table.ensures.ok)

pub nodes-returns-in-Named-clause-refused : goal.nodes-returns-in-Named-clause-refused
nodes-returns-in-Named-clause-refused t c =
    subst (λ tree. IfErr c.table.result (λ refusal. (refusal ≡ OutOfMemory) ⊎ AreRefused c.args.catalog.now (referents_on c.args.referents.now) tree refusal))
    (sym (c.opened_node-openings.ensures.opened ∙ ap (opened_tree (views_of c.args.catalog.now) c.opened_node-openings.result.1) c.in-Named.is))
    (IfErr-weaker c.table.result _ _ (λ refusal on. inr (on (referents_on c.args.referents.now))) c.table.ensures.refused)

pub nodes-boxed_nodes-requires : goal.nodes-boxed_nodes-requires
nodes-boxed_nodes-requires t c =
    let e = ap size.nodes (c.opened_node-openings.ensures.opened ∙ ap (opened_tree (views_of c.args.catalog.now) c.opened_node-openings.result.1) c.in-Unary.is) ∙ nodes_unary c.in-Unary.operator (opened_times c.opened_node-openings.result.1 (views_of c.args.catalog.now) (query_tree c.in-Unary.query.now)) in
    (omega (arith, e, c.opened_node-openings.ensures.fewer, c.decreases), tt)

pub nodes-returns-in_err-operand-in-Unary-clause-refused : goal.nodes-returns-in_err-operand-in-Unary-clause-refused
nodes-returns-in_err-operand-in-Unary-clause-refused t c =
    let p = err_from_is_err_and c.from_residual.result c.from_residual.ensures.1 in
    rw (p.1, p.2) (or_refused (unary_inside c.args.catalog.now (referents_on c.args.referents.now) (opened_times c.args.openings (views_of c.args.catalog.now) (query_tree c.args.query.now)) (opened_times c.opened_node-openings.result.1 (views_of c.args.catalog.now) (query_tree c.in-Unary.query.now)) c.in-Unary.operator (c.opened_node-openings.ensures.opened ∙ ap (opened_tree (views_of c.args.catalog.now) c.opened_node-openings.result.1) c.in-Unary.is) c.in_err-operand-in-Unary.field-0.0) c.in_err-operand-in-Unary.ensures.refused)

pub nodes-returns-in_ok-operand-in-Unary-clause-ok : goal.nodes-returns-in_ok-operand-in-Unary-clause-ok
nodes-returns-in_ok-operand-in-Unary-clause-ok t c =
    IfOk-weaker c.apply_unary.result _ _ (unary_made c.args.catalog.now (referents_on c.args.referents.now) (opened_times c.args.openings (views_of c.args.catalog.now) (query_tree c.args.query.now)) (opened_times c.opened_node-openings.result.1 (views_of c.args.catalog.now) (query_tree c.in-Unary.query.now)) c.in-Unary.operator (c.opened_node-openings.ensures.opened ∙ ap (opened_tree (views_of c.args.catalog.now) c.opened_node-openings.result.1) c.in-Unary.is) (checked_of c.in_ok-operand-in-Unary.operand) c.in_ok-operand-in-Unary.ensures.ok) c.apply_unary.ensures.ok

pub nodes-returns-in_ok-operand-in-Unary-clause-refused : goal.nodes-returns-in_ok-operand-in-Unary-clause-refused
nodes-returns-in_ok-operand-in-Unary-clause-refused t c =
    IfErr-weaker c.apply_unary.result _ _ (λ refusal. or_refused (unary_refused c.args.catalog.now (referents_on c.args.referents.now) (opened_times c.args.openings (views_of c.args.catalog.now) (query_tree c.args.query.now)) (opened_times c.opened_node-openings.result.1 (views_of c.args.catalog.now) (query_tree c.in-Unary.query.now)) c.in-Unary.operator (c.opened_node-openings.ensures.opened ∙ ap (opened_tree (views_of c.args.catalog.now) c.opened_node-openings.result.1) c.in-Unary.is) (checked_of c.in_ok-operand-in-Unary.operand) c.in_ok-operand-in-Unary.ensures.ok refusal)) c.apply_unary.ensures.refused

pub nodes-boxed_nodes-requires-in-Binary : goal.nodes-boxed_nodes-requires-in-Binary
nodes-boxed_nodes-requires-in-Binary t c =
    let e = ap size.nodes (c.opened_node-openings.ensures.opened ∙ ap (opened_tree (views_of c.args.catalog.now) c.opened_node-openings.result.1) c.in-Binary.is) ∙ nodes_binary c.in-Binary.operator (opened_times c.opened_node-openings.result.1 (views_of c.args.catalog.now) (query_tree c.in-Binary.left.now)) (opened_times c.opened_node-openings.result.1 (views_of c.args.catalog.now) (query_tree c.in-Binary.right.now)) in
    (omega (arith, e, c.opened_node-openings.ensures.fewer, c.decreases), tt)

pub nodes-returns-in_err-left-in-Binary-clause-refused : goal.nodes-returns-in_err-left-in-Binary-clause-refused
nodes-returns-in_err-left-in-Binary-clause-refused t c =
    let p = err_from_is_err_and c.from_residual-in_err-left-in-Binary.result c.from_residual-in_err-left-in-Binary.ensures.1 in
    rw (p.1, p.2) (or_refused (first_inside c.args.catalog.now (referents_on c.args.referents.now) (opened_times c.args.openings (views_of c.args.catalog.now) (query_tree c.args.query.now)) (opened_times c.opened_node-openings.result.1 (views_of c.args.catalog.now) (query_tree c.in-Binary.left.now)) (opened_times c.opened_node-openings.result.1 (views_of c.args.catalog.now) (query_tree c.in-Binary.right.now)) c.in-Binary.operator (c.opened_node-openings.ensures.opened ∙ ap (opened_tree (views_of c.args.catalog.now) c.opened_node-openings.result.1) c.in-Binary.is) c.in_err-left-in-Binary.field-0.0) c.in_err-left-in-Binary.ensures.refused)

pub nodes-boxed_nodes-requires-in-Binary-2 : goal.nodes-boxed_nodes-requires-in-Binary-2
nodes-boxed_nodes-requires-in-Binary-2 t c =
    let e = ap size.nodes (c.opened_node-openings.ensures.opened ∙ ap (opened_tree (views_of c.args.catalog.now) c.opened_node-openings.result.1) c.in-Binary.is) ∙ nodes_binary c.in-Binary.operator (opened_times c.opened_node-openings.result.1 (views_of c.args.catalog.now) (query_tree c.in-Binary.left.now)) (opened_times c.opened_node-openings.result.1 (views_of c.args.catalog.now) (query_tree c.in-Binary.right.now)) in
    (omega (arith, e, c.opened_node-openings.ensures.fewer, c.decreases), tt)

pub nodes-returns-in_err-right-in-Binary-clause-refused : goal.nodes-returns-in_err-right-in-Binary-clause-refused
nodes-returns-in_err-right-in-Binary-clause-refused t c =
    let p = err_from_is_err_and c.from_residual-in_err-right-in-Binary.result c.from_residual-in_err-right-in-Binary.ensures.1 in
    rw (p.1, p.2) (or_refused (second_inside c.args.catalog.now (referents_on c.args.referents.now) (opened_times c.args.openings (views_of c.args.catalog.now) (query_tree c.args.query.now)) (opened_times c.opened_node-openings.result.1 (views_of c.args.catalog.now) (query_tree c.in-Binary.left.now)) (opened_times c.opened_node-openings.result.1 (views_of c.args.catalog.now) (query_tree c.in-Binary.right.now)) c.in-Binary.operator (c.opened_node-openings.ensures.opened ∙ ap (opened_tree (views_of c.args.catalog.now) c.opened_node-openings.result.1) c.in-Binary.is) (checked_of c.in_ok-left-in-Binary.left) c.in_ok-left-in-Binary.ensures.ok c.in_err-right-in-Binary.field-0.0) c.in_err-right-in-Binary.ensures.refused)

pub nodes-returns-in_ok-right-in-Binary-clause-ok : goal.nodes-returns-in_ok-right-in-Binary-clause-ok
nodes-returns-in_ok-right-in-Binary-clause-ok t c =
    IfOk-weaker c.apply_binary.result _ _ (binary_made c.args.catalog.now (referents_on c.args.referents.now) (opened_times c.args.openings (views_of c.args.catalog.now) (query_tree c.args.query.now)) (opened_times c.opened_node-openings.result.1 (views_of c.args.catalog.now) (query_tree c.in-Binary.left.now)) (opened_times c.opened_node-openings.result.1 (views_of c.args.catalog.now) (query_tree c.in-Binary.right.now)) c.in-Binary.operator (c.opened_node-openings.ensures.opened ∙ ap (opened_tree (views_of c.args.catalog.now) c.opened_node-openings.result.1) c.in-Binary.is) (checked_of c.in_ok-left-in-Binary.left) c.in_ok-left-in-Binary.ensures.ok (checked_of c.in_ok-right-in-Binary.right) c.in_ok-right-in-Binary.ensures.ok) c.apply_binary.ensures.ok

pub nodes-returns-in_ok-right-in-Binary-clause-refused : goal.nodes-returns-in_ok-right-in-Binary-clause-refused
nodes-returns-in_ok-right-in-Binary-clause-refused t c =
    IfErr-weaker c.apply_binary.result _ _ (λ refusal e. inr (binary_refused c.args.catalog.now (referents_on c.args.referents.now) (opened_times c.args.openings (views_of c.args.catalog.now) (query_tree c.args.query.now)) (opened_times c.opened_node-openings.result.1 (views_of c.args.catalog.now) (query_tree c.in-Binary.left.now)) (opened_times c.opened_node-openings.result.1 (views_of c.args.catalog.now) (query_tree c.in-Binary.right.now)) c.in-Binary.operator (c.opened_node-openings.ensures.opened ∙ ap (opened_tree (views_of c.args.catalog.now) c.opened_node-openings.result.1) c.in-Binary.is) (checked_of c.in_ok-left-in-Binary.left) c.in_ok-left-in-Binary.ensures.ok (checked_of c.in_ok-right-in-Binary.right) c.in_ok-right-in-Binary.ensures.ok refusal e)) c.apply_binary.ensures.refused

pub boxed_nodes-returns-clause-ok : goal.boxed_nodes-returns-clause-ok
boxed_nodes-returns-clause-ok t c =
    IfOk-weaker c.boxed.result _ _ (λ made e. subst (AreNodes c.args.catalog.now (referents_on c.args.referents.now) (opened_times c.args.openings (views_of c.args.catalog.now) (query_tree c.args.query.now))) (sym e) c.in_ok-nodes.ensures.ok) c.boxed.ensures.ok
