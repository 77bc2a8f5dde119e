use Rattle.std.proofs.Common.{take}
use Rattle.rs_csv_lines.specs.Numbers.{AreBlanks}
use Rattle.rs_csv_lines.proofs.numbers.count_blanks.Given as goal

abbrev pub invariant-loop-place : goal.invariant-loop-place
invariant-loop-place l = AreBlanks (take l.place l.bytes)
