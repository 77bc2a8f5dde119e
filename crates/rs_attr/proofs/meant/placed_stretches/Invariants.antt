-- The spans of the cells so far.
use Rattle.std.proofs.Common.{map, take}
use Rattle.rs_attr.specs.Meant.{SayStretches, stretch_of}
use Rattle.rs_records.specs.Listed.{listed}
use Rattle.rs_attr.proofs.meant.placed_stretches.Given as goal

abbrev pub invariant-loop-place : goal.invariant-loop-place
invariant-loop-place l = record {
  placed : SayStretches l.told l.route (take l.place (listed l.cells)) (map stretch_of l.stretches.items);
}
