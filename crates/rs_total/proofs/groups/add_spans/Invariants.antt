use Rattle.std.proofs.Common.{◌≡◌, map, take}
use Rattle.rs_value.specs.Row.{Row}
use Rattle.rs_facts.specs.Spans.{seen}
use Rattle.rs_total.specs.Counting.{kept_along}
use Rattle.rs_total.specs.Tally.{kept_of}
use Rattle.rs_total.proofs.groups.add_spans.Given as goal

-- The groups took the spans so far.
abbrev pub invariant-loop-span : goal.invariant-loop-span
invariant-loop-span l = (group : Row) → kept_of l.groups.entries group ≡ kept_along l.by l.summed l.start group (kept_of l.initial.groups.entries group) (map seen (take l.span-index l.spans))
