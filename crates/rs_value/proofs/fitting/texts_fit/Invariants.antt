use Rattle.std.proofs.Common.{◌≡◌, drop}
use Rattle.rs_value.specs.View.{literal_row}
use Rattle.rs_value.specs.Fitting.{has_room, each_passes}
use Rattle.rs_value.proofs.fitting.texts_fit.Given as goal

abbrev pub invariant-loop-i : goal.invariant-loop-i
invariant-loop-i l = each_passes has_room l.columns (literal_row l.literals) ≡ each_passes has_room (drop l.i l.columns) (literal_row (drop l.i l.literals))
