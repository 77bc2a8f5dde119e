use Rattle.std.proofs.Common.{◌≡◌, map, take}
use Rattle.rs_facts.specs.Spans.{seen}
use Rattle.rs_coalesce.specs.Lent.{seen_lent}
use Rattle.rs_coalesce.proofs.lending.lent.Given as goal

abbrev pub invariant-loop-span : goal.invariant-loop-span
invariant-loop-span l = map seen_lent l.lent.items ≡ map seen (take l.span-index l.spans)
