use Rattle.rs_syntax.specs.QueryView.{query_tree}
use Rattle.rs_machine.specs.Opening.{nodes}
use Rattle.rs_checker.proofs.checking.+alignments_known.Given as goal

abbrev pub decreases-alignments_known : goal.decreases-alignments_known
decreases-alignments_known l = nodes (query_tree l.query.now)
