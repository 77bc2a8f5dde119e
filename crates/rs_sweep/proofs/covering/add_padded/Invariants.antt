use Rattle.std.proofs.Common.{◌≡◌, ◌++◌, map, drop}
use Rattle.rs_facts.specs.Spans.{seen}
use Rattle.rs_sweep.specs.Inner.{joined_with}
use Rattle.rs_sweep.specs.Parts.{changed_part}
use Rattle.rs_sweep.proofs.covering.add_padded.Given as goal

-- What is added so far, and the parts that are left, are all of them.
abbrev pub invariant-loop-part : goal.invariant-loop-part
invariant-loop-part l = map seen l.found.items ++ map (changed_part (joined_with l.side l.nulls) (seen l.span)) (drop l.part-index l.parts)
    ≡ map seen l.initial.found.items ++ map (changed_part (joined_with l.side l.nulls) (seen l.span)) l.parts
