use Rattle.std.proofs.Common.{map}
use Rattle.rs_facts.specs.Spans.{seen}
use Rattle.rs_sweep.specs.Inner.{clipped}
use Rattle.rs_sweep.proofs.InPlace.{Edits}
use Rattle.rs_sweep.proofs.clipping.clip_each.Given as goal

-- What is cut so far, and the rest cut, is all of it cut.
abbrev pub invariant-loop-span : goal.invariant-loop-span
invariant-loop-span l = Edits (clipped l.lo l.hi) l.span-items l.span-index (map (clipped l.lo l.hi) (map seen l.initial.span-items))
