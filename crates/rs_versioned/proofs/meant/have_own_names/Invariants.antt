-- The names so far rise to the last of them.
use Rattle.std.proofs.Common.{List, take}
use Rattle.std.specs.List.{AllZip}
use Rattle.rs_records.specs.Listed.{listed}
use Rattle.rs_versioned.specs.MeantParts.{names_of, seen}
use Rattle.rs_versioned.specs.Referents.{ReferentRecord, SaysReferent}
use Rattle.rs_versioned.proofs.RisingNames.{RisesTo}
use Rattle.rs_versioned.proofs.meant.have_own_names.Given as goal

abbrev pub invariant-loop-place : goal.invariant-loop-place
invariant-loop-place l = (referents : List ReferentRecord) → AllZip SaysReferent (listed l.cells) referents → RisesTo (names_of (seen l.version (take l.place referents))) l.last
