-- The tables that are left decide.
use Rattle.std.proofs.Common.{◌≡◌}
use Rattle.rs_exec.specs.Given.{table_asked}
use Rattle.rs_store_source.proofs.Listed.{some_left}
use Rattle.rs_store_source.proofs.asked.has_table.Given as goal

abbrev pub invariant-loop-table : goal.invariant-loop-table
invariant-loop-table l = some_left (table_asked l.fn.asked) l.table-iterator ≡ some_left (table_asked l.fn.asked) l.initial.table-iterator
