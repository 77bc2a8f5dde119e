-- The cells so far say referents.
use Rattle.std.proofs.Common.{take}
use Rattle.std.specs.List.{AllByRecursion}
use Rattle.rs_records.specs.Listed.{listed}
use Rattle.rs_versioned.specs.Referents.{ReferentRecord, SaysReferent}
use Rattle.rs_versioned.proofs.meant.say_referents.Given as goal

abbrev pub invariant-loop-place : goal.invariant-loop-place
invariant-loop-place l = AllByRecursion (λ cell. (referent : ReferentRecord) × SaysReferent cell referent) (take l.place (listed l.cells))
