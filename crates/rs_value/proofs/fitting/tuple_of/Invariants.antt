use Rattle.std.proofs.Common.{◌≡◌, take, drop}
use Rattle.std.specs.List.{AllByRecursion}
use Rattle.arrayvec.specs.ArrayVec.{array_vec_len}
use Rattle.rs_value.specs.Kept.{IsShort}
use Rattle.rs_value.specs.View.{literal_row, row_of}
use Rattle.rs_value.proofs.fitting.tuple_of.Given as goal

abbrev pub invariant-loop-literal : goal.invariant-loop-literal
invariant-loop-literal l = record {
  len : array_vec_len l.tuple ≡ l.literal-index;
  row : row_of l.tuple.items ≡ literal_row (take l.literal-index l.literals);
  left : AllByRecursion IsShort (literal_row (drop l.literal-index l.literals));
}
