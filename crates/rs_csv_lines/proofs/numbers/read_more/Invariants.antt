use Rattle.std.proofs.Common.{◌≡◌, ◌≤◌, take}
use Rattle.rs_measure.specs.FixedPoint.{number_from}
use Rattle.rs_csv_lines.proofs.numbers.read_more.Given as goal

abbrev pub invariant-loop-digit : goal.invariant-loop-digit
invariant-loop-digit l = record {
  value : l.more ≡ number_from l.fn.number (take l.digit-index l.digits);
  in_range : l.more ≤ l.fn.greatest;
}
