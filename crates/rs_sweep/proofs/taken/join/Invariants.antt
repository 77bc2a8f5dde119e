use Rattle.std.proofs.Common.{◌≡◌, ◌++◌, map, drop}
use Rattle.rs_value.specs.declared.column.Kind.TheVariants.{Line}
use Rattle.rs_coalesce.specs.Joined.{joined_onto}
use Rattle.rs_sweep.specs.Taken.{taken_of}
use Rattle.rs_sweep.proofs.TakenLaws.{keys}
use Rattle.rs_sweep.proofs.taken.join.Given as goal

-- What is taken so far, and the last joined with what is left, is all of it joined.
abbrev pub invariant-loop-span : goal.invariant-loop-span
invariant-loop-span l = map (taken_of l.rows) l.taken.items ++ joined_onto Line (taken_of l.rows l.last) (keys l.rows (drop l.span-index l.rest)) ≡ joined_onto Line (taken_of l.rows l.initial.last) (keys l.rows l.rest)
