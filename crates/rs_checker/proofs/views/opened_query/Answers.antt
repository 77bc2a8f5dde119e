use Rattle.std.proofs.Common.{arith}
use Rattle.rs_syntax.specs.QueryView.{query_tree}
use Rattle.rs_catalog.specs.Definitions.{views_of}
use Rattle.rs_checker.proofs.CatalogLaws.{view_there, view_missing}
use Rattle.rs_checker.proofs.QueryLaws.{opened_view, opened_table, opened_never}
use Rattle.rs_checker.proofs.views.opened_query.Goals as goal

pub returns-then-openings-eq0-clause-stays : goal.returns-then-openings-eq0-clause-stays
returns-then-openings-eq0-clause-stays c = opened_never c.args.openings (views_of c.args.catalog.now) c.args.name.now.bytes (omega arith)

pub returns-in-Some-clause-opened : goal.returns-in-Some-clause-opened
returns-in-Some-clause-opened c = opened_view c.args.openings (views_of c.args.catalog.now) c.args.name.now.bytes (query_tree c.query.result.now) (omega arith)
    (view_there c.args.catalog.now c.args.name.now.bytes c.view.result c.in-Some.view c.query.result.now c.view.ensures c.in-Some.is c.query.ensures)

pub returns-in-None-clause-stays : goal.returns-in-None-clause-stays
returns-in-None-clause-stays c = opened_table c.args.openings (views_of c.args.catalog.now) c.args.name.now.bytes (view_missing c.args.catalog.now c.args.name.now.bytes c.view.result c.view.ensures c.in-None.is)
