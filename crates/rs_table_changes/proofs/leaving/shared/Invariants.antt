-- What those so far have, and those to come, is what all have.
use Rattle.std.proofs.Common.{◌≡◌, ◌≤◌, ◌+◌, ◌*◌, map, drop}
use Rattle.rs_facts.specs.Spans.{seen}
use Rattle.rs_table_changes.specs.Picked.{shared_by}
use Rattle.rs_table_changes.proofs.leaving.shared.Given as goal

abbrev pub invariant-loop-span : goal.invariant-loop-span
invariant-loop-span l = record {
  counted : l.count + shared_by l.lo l.hi (map seen (drop l.span-index l.spans)) ≡ shared_by l.lo l.hi (map seen l.spans);
  few : l.count ≤ l.span-index * 4294967296;
}
