-- What a version shows as a source stands for it.
use Rattle.std.specs.Prelude.{◌≡◌, ℕ}
use Rattle.rs_catalog.specs.Definitions.{Definitions}
use Rattle.rs_exec.specs.Snapshot.{Snapshot, Snapshots}
use Rattle.rs_facts.specs.Fact.{Names}
use Rattle.rs_answers.specs.Versions.{SeenVersion}

-- among the snapshots that the source stands for, that of the version has these rows
pub record HasRowsAt {S : Type 0} (is_of : S → Snapshots → Type 0) (source : S) (version : ℕ) (rows : Snapshot) : Type 0 where
  pub snapshots : Snapshots
  pub is : is_of source snapshots
  pub there : snapshots version ≡ rows

-- a version that has these definitions' routes, and these referents by the routes' numbers
pub record HasDefinitions (definitions : Definitions) (kept : ℕ → Names ℕ) (seen : SeenVersion) : Type 0 where
  pub routes : seen.routes ≡ definitions.routes
  pub referents : (number : ℕ) → seen.referents number ≡ kept number
