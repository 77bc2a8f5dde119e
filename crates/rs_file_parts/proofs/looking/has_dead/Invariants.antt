-- No record of the tables so far is dead.
use Rattle.std.proofs.Common.{take}
use Rattle.std.specs.List.{AllByRecursion}
use Rattle.rs_file_parts.specs.Inner.{HasNoneDead}
use Rattle.rs_file_parts.proofs.looking.has_dead.Given as goal

abbrev pub invariant-loop-table : goal.invariant-loop-table
invariant-loop-table l = AllByRecursion HasNoneDead (take l.table-index l.tables)
