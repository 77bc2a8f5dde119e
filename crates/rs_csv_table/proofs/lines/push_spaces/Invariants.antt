use Rattle.std.proofs.Common.{◌≡◌, ◌++◌}
use Rattle.rs_csv_table.specs.Tables.{spaces}
use Rattle.rs_csv_table.proofs.lines.push_spaces.Given as goal

abbrev pub invariant-loop : goal.invariant-loop
invariant-loop l = l.text.items ≡ l.fn.text.items ++ spaces l.counter
