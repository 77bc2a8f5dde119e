-- None of the tables so far has changed, where no mark is set.
use Rattle.std.proofs.Common.{◌≡◌, false, take}
use Rattle.std.specs.List.{AllByRecursion}
use Rattle.rs_file_parts.specs.Parts.{IsTableCommitted}
use Rattle.rs_file_parts.proofs.looking.may_have_changed.Given as goal

abbrev pub invariant-loop-table : goal.invariant-loop-table
invariant-loop-table l = l.changed ≡ false → l.indexes ≡ 0 → AllByRecursion IsTableCommitted (take l.table-index l.tables)
