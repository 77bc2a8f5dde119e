-- The cells so far are counted.
use Rattle.std.proofs.Common.{◌≡◌, ℕ, take}
use Rattle.rs_records.specs.Listed.{listed, record_width}
use Rattle.rs_cell_versions.specs.Looking.{Counts, HoldsTally}
use Rattle.rs_cell_versions.specs.Tallies.{tallied}
use Rattle.rs_cell_versions.proofs.tally.Tally.count.Given as goal

abbrev pub invariant-loop-index : goal.invariant-loop-index
invariant-loop-index l = record {
  counts : Counts (tallied l.fn.self) (tallied l.self) (take l.index (listed l.found));
  holds : (garbage : ℕ) → HoldsTally (tallied l.fn.self) garbage → HoldsTally (tallied l.self) garbage;
  width : record_width l.self.dead ≡ record_width l.fn.self.dead;
}
