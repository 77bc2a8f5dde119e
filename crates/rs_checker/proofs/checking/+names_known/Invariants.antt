use Rattle.rs_syntax.specs.QueryView.{query_tree}
use Rattle.rs_machine.specs.Opening.{nodes}
use Rattle.rs_checker.proofs.checking.+names_known.Given as goal

abbrev pub decreases-names_known : goal.decreases-names_known
decreases-names_known l = nodes (query_tree l.query.now)
