use Rattle.std.proofs.Common.{◌≡◌, drop}
use Rattle.rs_checker.proofs.ColumnLaws.{is_among_in}
use Rattle.rs_checker.proofs.columns.is_among.Given as goal

abbrev pub invariant-loop-other : goal.invariant-loop-other
invariant-loop-other l = is_among_in l.name.bytes l.names ≡ is_among_in l.name.bytes (drop l.other-index l.names)
