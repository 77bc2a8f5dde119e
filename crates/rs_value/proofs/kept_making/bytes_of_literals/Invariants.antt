use Rattle.std.proofs.Common.{take, drop}
use Rattle.std.specs.List.{AllByRecursion}
use Rattle.rs_value.specs.Kept.{Keeps, MayBeKept}
use Rattle.rs_value.specs.View.{literal_row}
use Rattle.rs_value.proofs.kept_making.bytes_of_literals.Given as goal

abbrev pub invariant-loop-literal : goal.invariant-loop-literal
invariant-loop-literal l = record {
  kept : Keeps l.bytes.items (literal_row (take l.literal-index l.literals));
  left : AllByRecursion MayBeKept (literal_row (drop l.literal-index l.literals));
}
