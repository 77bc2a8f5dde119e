-- No record of the runs so far is dead.
use Rattle.std.proofs.Common.{◌≤◌, ◌*◌, take}
use Rattle.std.specs.List.{AllByRecursion}
use Rattle.rs_file_parts.specs.Inner.{HasNoneDead}
use Rattle.rs_file_parts.proofs.looking.have_none_dead.Given as goal

abbrev pub invariant-loop-run : goal.invariant-loop-run
invariant-loop-run l = record { none : AllByRecursion HasNoneDead (take (l.run * 8) l.tables); inside : l.run ≤ l.runs }
