use Rattle.std.proofs.Common.{◌≡◌, ◌++◌, map, drop}
use Rattle.rs_facts.specs.Spans.{seen}
use Rattle.rs_sweep.specs.Parts.{walked}
use Rattle.rs_sweep.specs.Taken.{keyed, taken_of}
use Rattle.rs_sweep.proofs.parts.walk.Given as goal

-- The parts so far, and those from here on, are all of them.
abbrev pub invariant-loop-stretch : goal.invariant-loop-stretch
invariant-loop-stretch l = l.parts.items ++ walked l.lo (keyed l.rows (seen l.span)) (map (taken_of l.rows) (drop l.stretch-index l.taken)) ≡ l.initial.parts.items ++ walked l.span.lo (keyed l.rows (seen l.span)) (map (taken_of l.rows) l.taken)
