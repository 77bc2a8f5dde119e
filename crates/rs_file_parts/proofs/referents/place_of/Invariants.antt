-- None of the cells so far lives and has the name.
use Rattle.std.proofs.Common.{◌≡◌, ◌<◌, ℕ, IsTrue, List, Some, slice_get}
use Rattle.rs_cell_versions.specs.Version.{is_living}
use Rattle.rs_records.specs.Listed.{listed}
use Rattle.rs_versioned.specs.Referents.{ReferentRecord, SaysReferent}
use Rattle.rs_file_parts.proofs.referents.place_of.Given as goal

abbrev pub invariant-loop-place : goal.invariant-loop-place
invariant-loop-place l = (place : ℕ) → place < l.place → (cell : List ℕ) (referent : ReferentRecord) → slice_get (listed l.cells) place ≡ Some cell → IsTrue (is_living cell)
    → SaysReferent cell referent → referent.name ≡ l.name.bytes → ⊥
