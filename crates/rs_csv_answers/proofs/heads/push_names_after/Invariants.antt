use Rattle.std.proofs.Common.{◌≡◌, ◌++◌, drop, map}
use Rattle.rs_machine.specs.Checks.{column_names}
use Rattle.rs_syntax.specs.View.{column_tree}
use Rattle.rs_csv_answers.specs.Heads.{names_after}
use Rattle.rs_csv_answers.proofs.heads.push_names_after.Given as goal

abbrev pub invariant-loop-column : goal.invariant-loop-column
invariant-loop-column l = l.text.items ++ names_after (column_names (map column_tree (drop l.column-index l.columns))) ≡ l.fn.text.items ++ names_after (column_names (map column_tree l.columns))
