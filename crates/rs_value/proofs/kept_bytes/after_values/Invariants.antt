use Rattle.std.proofs.Common.{drop}
use Rattle.rs_value.specs.Kept.{Keeps}
use Rattle.rs_value.specs.Row.{Row}
use Rattle.rs_value.proofs.kept_bytes.after_values.Given as goal

abbrev pub invariant-loop : goal.invariant-loop
invariant-loop l = (row : Row) → Keeps l.bytes row → Keeps l.rest (drop l.counter row)
