use Rattle.std.proofs.Common.{◌≡◌, map, take}
use Rattle.rs_syntax.specs.View.{column_tree}
use Rattle.rs_machine.specs.Checks.{column_types}
use Rattle.rs_command_checks.proofs.columns.schema_of.Given as goal

abbrev pub invariant-loop-column : goal.invariant-loop-column
invariant-loop-column l = l.schema.items ≡ column_types (map column_tree (take l.column-index l.columns))
