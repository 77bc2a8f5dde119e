use Rattle.std.proofs.Common.{◌≡◌, ◌+◌, ◌≤◌, drop}
use Rattle.rs_csv_table.specs.Fields.{width}
use Rattle.rs_csv_table.proofs.fields.width_of.Given as goal

abbrev pub invariant-loop-byte : goal.invariant-loop-byte
invariant-loop-byte l = (l.width ≤ l.byte-index) × (l.width + width (drop l.byte-index l.field) ≡ width l.field)
