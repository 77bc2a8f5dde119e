-- What is left of those so far, and of those to come, is what is left of all.
use Rattle.std.proofs.Common.{◌≡◌, ◌++◌, map, drop}
use Rattle.rs_facts.specs.Spans.{seen}
use Rattle.rs_table_changes.specs.Picked.{outside_all}
use Rattle.rs_table_changes.proofs.leaving.outside.Given as goal

abbrev pub invariant-loop-span : goal.invariant-loop-span
invariant-loop-span l = map seen l.left.items ++ outside_all l.lo l.hi (map seen (drop l.span-index l.spans)) ≡ outside_all l.lo l.hi (map seen l.spans)
