use Rattle.std.proofs.Common.{map, take}
use Rattle.rs_facts.specs.Spans.{seen}
use Rattle.rs_coalesce.specs.Lent.{seen_lent}
use Rattle.rs_sweep.specs.Inner.{joined_with}
use Rattle.rs_sweep.specs.Parts.{IsCut}
use Rattle.rs_sweep.specs.Taken.{taken_of}
use Rattle.rs_sweep.specs.declared.taken.Rows.TheVariants.{All}
use Rattle.rs_sweep.proofs.covering.pad.Given as goal

abbrev pub invariant-loop-span : goal.invariant-loop-span
invariant-loop-span l = IsCut (joined_with l.side l.nulls) All (map (taken_of All) l.taken) (map seen_lent (take l.span-index l.spans)) (map seen l.initial.found.items) (map seen l.found.items)
