-- Below an operator all is opened as often.
use Rattle.std.proofs.Common.{sym, ap, ◌∙◌}
use Rattle.rs_catalog.specs.Definitions.{views_of}
use Rattle.rs_checker.specs.NodeView.{opened_tree}
use Rattle.rs_checker.proofs.QueryLaws.{unary_opened, binary_opened}
use Rattle.rs_checker.proofs.views.+opened_node.Goals as goal

pub returns-in-Unary-clause-opened : goal.returns-in-Unary-clause-opened
returns-in-Unary-clause-opened t c =
    unary_opened c.args.openings (views_of c.args.catalog.now) c.args.query.now c.top_node-node.result c.top_node-node.ensures c.in-Unary.field-0 c.in-Unary.field-1 c.in-Unary.is
    ∙ sym (ap (opened_tree (views_of c.args.catalog.now) c.args.openings) c.in-Unary.is)

pub returns-in-Binary-clause-opened : goal.returns-in-Binary-clause-opened
returns-in-Binary-clause-opened t c =
    binary_opened c.args.openings (views_of c.args.catalog.now) c.args.query.now c.top_node-node.result c.top_node-node.ensures c.in-Binary.field-0 c.in-Binary.field-1 c.in-Binary.field-2 c.in-Binary.is
    ∙ sym (ap (opened_tree (views_of c.args.catalog.now) c.args.openings) c.in-Binary.is)
