use Rattle.std.proofs.Common.{◌≡◌, map, take}
use Rattle.rs_facts.specs.Spans.{seen}
use Rattle.rs_spans.proofs.copies.copy_spans.Given as goal

abbrev pub invariant-loop-span : goal.invariant-loop-span
invariant-loop-span l = map seen l.copies.items ≡ map seen (take l.span-index l.spans)
