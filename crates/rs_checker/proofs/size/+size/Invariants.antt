use Rattle.std.proofs.Common.{◌+◌, ◌*◌}
use Rattle.rs_syntax.specs.QueryView.{query_tree}
use Rattle.rs_machine.specs.Opening.{nodes, opened_times}
use Rattle.rs_catalog.specs.Definitions.{views_of}
use Rattle.rs_checker.proofs.size.+size.Given as goal

-- Each call goes to fewer nodes of the query with its views opened.
abbrev pub decreases-nodes_left : goal.decreases-nodes_left
decreases-nodes_left l = 2 * (nodes (opened_times l.openings (views_of l.catalog.now) (query_tree l.query.now)) + l.openings) + 1

abbrev pub decreases-pair_left : goal.decreases-pair_left
decreases-pair_left l = 2 * (nodes (opened_times l.openings (views_of l.catalog.now) (query_tree l.left.now)) + nodes (opened_times l.openings (views_of l.catalog.now) (query_tree l.right.now)) + l.openings) + 2
