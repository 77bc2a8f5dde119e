-- Those so far that the version sees are meant.
use Rattle.std.proofs.Common.{List, take}
use Rattle.std.specs.List.{AllByRecursion, AllZip}
use Rattle.rs_records.specs.Listed.{listed}
use Rattle.rs_versioned.specs.MeantParts.{IsMeantOn, seen}
use Rattle.rs_versioned.specs.Referents.{ReferentRecord, SaysReferent}
use Rattle.rs_versioned.proofs.meant.are_meant_on.Given as goal

abbrev pub invariant-loop-place : goal.invariant-loop-place
invariant-loop-place l = (referents : List ReferentRecord) → AllZip SaysReferent (listed l.cells) referents → AllByRecursion (IsMeantOn l.on) (seen l.version (take l.place referents))
