use Rattle.std.proofs.Common.{◌≡◌, ◌++◌, map, drop}
use Rattle.rs_coalesce.specs.Lent.{seen_lent}
use Rattle.rs_facts.specs.Spans.{seen}
use Rattle.rs_sweep.specs.Parts.{left_along}
use Rattle.rs_sweep.proofs.in_line.go_along.Given as goal

-- The parts so far, and those from here on, are all of them.
abbrev pub invariant-loop-other : goal.invariant-loop-other
invariant-loop-other l = l.parts.items ++ left_along l.lo (seen l.span) (map seen_lent (drop l.other-index l.others)) ≡ l.initial.parts.items ++ left_along l.span.lo (seen l.span) (map seen_lent l.others)
