use Rattle.std.proofs.Common.{◌+◌, ◌*◌}
use Rattle.rs_syntax.specs.QueryView.{query_tree}
use Rattle.rs_machine.specs.Opening as size
use Rattle.rs_machine.specs.Opening.{opened_times}
use Rattle.rs_catalog.specs.Definitions.{views_of}
use Rattle.rs_checker.proofs.checking.+nodes.Given as goal

-- Each call goes to fewer nodes of the query with its views opened.
abbrev pub decreases-nodes : goal.decreases-nodes
decreases-nodes l = 2 * (size.nodes (opened_times l.openings (views_of l.catalog.now) (query_tree l.query.now)) + l.openings) + 1

abbrev pub decreases-boxed_nodes : goal.decreases-boxed_nodes
decreases-boxed_nodes l = 2 * (size.nodes (opened_times l.openings (views_of l.catalog.now) (query_tree l.query.now)) + l.openings) + 2
