use Rattle.std.proofs.Common.{take}
use Rattle.std.specs.Prelude.{map}
use Rattle.rs_syntax.specs.View.{column_tree}
use Rattle.rs_syntax.specs.Written.{SaysColumns}
use Rattle.rs_meaning.proofs.said_definitions.columns_said.Given as goal

abbrev pub invariant-loop-column : goal.invariant-loop-column
invariant-loop-column l = SaysColumns l.line (take l.column-index l.written) (map column_tree l.columns.items)
