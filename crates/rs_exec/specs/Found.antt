-- What a source gives for a leaf.
use Rattle.std.specs.Prelude.{◌≡◌, ℕ, List}
use Rattle.rs_facts.specs.Condition.{Condition}
use Rattle.rs_facts.specs.Runs.{Stretch}
use Rattle.rs_facts.specs.Spans.{places_of, ArePlaced}
use Rattle.rs_planning.specs.Plan.{met_by_each}
use Rattle.rs_coalesce.specs.Joined.{AreJoined}
use Rattle.rs_sweep.specs.Lists.{AreWide}
use Rattle.rs_exec.specs.Snapshot.{Snapshots}
use Rattle.rs_exec.specs.Given.{inside, rows_asked}
use Rattle.rs_exec.specs.declared.source.Asked.{Asked}
use Rattle.rs_exec.specs.declared.source.Part.{Part}

-- In each of the snapshots the spans mean the table's rows inside the part, as far as these meet the conditions, and no two are
-- one run.
pub record AreFound (stands : Snapshots → Type 0) (asked : Asked) (part : Part) (conditions : List Condition) (spans : List Stretch) : Type 0 where
  pub means : (snapshots : Snapshots) → stands snapshots → (k : ℕ) → met_by_each conditions (inside part k (places_of spans k)) ≡ met_by_each conditions (inside part k (rows_asked snapshots asked k))
  pub joined : (snapshots : Snapshots) → stands snapshots → AreJoined asked.kind spans
  pub placed : ArePlaced asked.kind spans
  pub wide : AreWide asked.width spans
