use Rattle.std.proofs.Common.{◌≡◌, ◌++◌, map, drop}
use Rattle.rs_facts.specs.Spans.{seen}
use Rattle.rs_sweep.specs.Parts.{changed_part, unchanged}
use Rattle.rs_sweep.proofs.difference.cut.Given as goal

-- What is added so far, and the parts that are left but for the last, are all but the last.
abbrev pub invariant-loop-part : goal.invariant-loop-part
invariant-loop-part l = map seen l.kept.items ++ map (changed_part unchanged (seen l.span)) (drop l.part-index l.others)
    ≡ map seen l.initial.kept.items ++ map (changed_part unchanged (seen l.span)) l.others
