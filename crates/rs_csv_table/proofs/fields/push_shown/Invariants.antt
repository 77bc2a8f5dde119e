use Rattle.std.proofs.Common.{◌≡◌, ◌++◌, drop}
use Rattle.rs_csv_table.specs.Fields.{shown}
use Rattle.rs_csv_table.proofs.fields.push_shown.Given as goal

abbrev pub invariant-loop-byte : goal.invariant-loop-byte
invariant-loop-byte l = l.text.items ++ shown (drop l.byte-index l.field) ≡ l.fn.text.items ++ shown l.field
