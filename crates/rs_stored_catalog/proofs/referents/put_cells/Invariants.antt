-- The cells so far.
use Rattle.std.proofs.Common.{List, take}
use Rattle.std.specs.List.{AllZip}
use Rattle.rs_catalog.specs.Referents.{referents_on}
use Rattle.rs_stored_catalog.specs.Referents.{HasMore}
use Rattle.rs_machine.specs.Lawful.{AreDistinct}
use Rattle.rs_records.specs.Listed.{listed}
use Rattle.rs_stored_catalog.proofs.PutReferents.{entries_of, names_of}
use Rattle.rs_versioned.specs.Referents.{ReferentRecord, SaysReferent}
use Rattle.rs_stored_catalog.proofs.referents.put_cells.Given as goal

abbrev pub invariant-loop-index : goal.invariant-loop-index
invariant-loop-index l = (referents : List ReferentRecord) → AllZip SaysReferent (listed l.cells) referents → AreDistinct (names_of (entries_of referents))
    → HasMore l.number (entries_of (take l.index referents)) (referents_on l.fn.made) (referents_on l.made)
