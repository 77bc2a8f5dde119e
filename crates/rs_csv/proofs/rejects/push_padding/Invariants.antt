use Rattle.std.proofs.Common.{◌≡◌, ◌++◌}
use Rattle.rs_csv.specs.Rejects.{padding}
use Rattle.rs_csv.proofs.rejects.push_padding.Given as goal

abbrev pub invariant-loop : goal.invariant-loop
invariant-loop l = record {
  put : l.row.items ≡ l.fn.row.items ++ padding l.separator l.counter;
}
