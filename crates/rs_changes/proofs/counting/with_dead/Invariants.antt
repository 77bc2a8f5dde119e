-- The tables so far.
use Rattle.std.proofs.Common.{◌≡◌, ◌+◌, ◌-◌, ◌^◌, min, take}
use Rattle.std.specs.List.{sum_by}
use Rattle.rs_changes.specs.Garbage.{dead_of}
use Rattle.rs_changes.proofs.counting.with_dead.Given as goal

abbrev pub invariant-loop-table : goal.invariant-loop-table
invariant-loop-table l = l.count ≡ min (l.first + sum_by dead_of (take l.table-index l.tables)) (2 ^ 64 - 1)
