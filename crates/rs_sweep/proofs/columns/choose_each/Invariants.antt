use Rattle.std.proofs.Common.{map}
use Rattle.rs_facts.specs.Spans.{seen}
use Rattle.rs_sweep.specs.Inner.{in_columns}
use Rattle.rs_sweep.proofs.InPlace.{Edits}
use Rattle.rs_sweep.proofs.columns.choose_each.Given as goal

-- The rows that are cut down, and the rest cut down, are all of them.
abbrev pub invariant-loop-span : goal.invariant-loop-span
invariant-loop-span l = Edits (in_columns l.columns) l.span-items l.span-index (map (in_columns l.columns) (map seen l.initial.span-items))
