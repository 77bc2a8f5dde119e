use Rattle.std.proofs.Common.{map}
use Rattle.rs_facts.specs.Spans.{seen}
use Rattle.rs_sweep.specs.Inner.{shifted}
use Rattle.rs_sweep.proofs.InPlace.{Edits}
use Rattle.rs_sweep.proofs.shifting.shift_each.Given as goal

-- What is carried so far, and the rest carried, is all of it carried.
abbrev pub invariant-loop-span : goal.invariant-loop-span
invariant-loop-span l = Edits (shifted l.from l.to l.onto) l.span-items l.span-index (map (shifted l.from l.to l.onto) (map seen l.initial.span-items))
