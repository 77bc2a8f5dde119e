use Rattle.std.proofs.Common.{take}
use Rattle.rs_value.specs.View.{literal_row}
use Rattle.rs_syntax.specs.Written.{SaysRow}
use Rattle.rs_meaning.proofs.said_events.values_said.Given as goal

abbrev pub invariant-loop-value : goal.invariant-loop-value
invariant-loop-value l = SaysRow l.line (take l.value-index l.written) (literal_row l.values.items)
