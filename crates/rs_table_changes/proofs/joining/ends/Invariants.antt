-- The ends of those so far and those to come are the ends of all.
use Rattle.std.proofs.Common.{◌≡◌, map, drop}
use Rattle.rs_facts.specs.Spans.{seen}
use Rattle.rs_table_changes.specs.Picked.{highest, lowest}
use Rattle.rs_table_changes.proofs.joining.ends.Given as goal

abbrev pub invariant-loop-other : goal.invariant-loop-other
invariant-loop-other l = record {
  low : lowest l.lo (map seen (drop l.other-index l.others)) ≡ lowest l.fn.span.lo (map seen l.others);
  high : highest l.hi (map seen (drop l.other-index l.others)) ≡ highest l.fn.span.hi (map seen l.others);
}
