use Rattle.std.proofs.Common.{◌≡◌, drop}
use Rattle.rs_value.specs.View.{literal_row}
use Rattle.rs_value.specs.Fitting.{has_type, each_passes}
use Rattle.rs_value.proofs.fitting.types_fit.Given as goal

abbrev pub invariant-loop-i : goal.invariant-loop-i
invariant-loop-i l = each_passes has_type l.columns (literal_row l.literals) ≡ each_passes has_type (drop l.i l.columns) (literal_row (drop l.i l.literals))
