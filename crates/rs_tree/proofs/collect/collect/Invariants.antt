-- The cells so far of those between the two places.
use Rattle.std.proofs.Common.{◌≡◌, ◌-◌, ◌≤◌, ◌++◌, Bool, take, drop, filter}
use Rattle.std.specs.Fn.{FnReturnsAt}
use Rattle.rs_records.specs.Records.{records}
use Rattle.rs_records.specs.Listed.{listed, record_width}
use Rattle.rs_tree.specs.Asking.{Computes}
use Rattle.rs_tree.proofs.collect.collect.Given as goal

abbrev pub invariant-loop-index : goal.invariant-loop-index
invariant-loop-index g l = record {
  width : record_width l.cells ≡ l.layout.width;
  ends : l.index - l.from ≤ l.to - l.from;
  found : (test : g.row.S.Denot → Bool) → Computes (FnReturnsAt g.F.Fn l.keep) test
      → listed l.cells ≡ listed l.fn.cells ++ filter (λ cell. test (g.S.Summary.of cell)) (take (l.index - l.from) (drop l.from (records l.count l.layout.width l.bytes)));
}
