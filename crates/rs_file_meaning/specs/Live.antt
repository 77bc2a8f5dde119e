-- What versions see of a file's contents before a change and after it.
use Rattle.std.specs.Prelude.{◌≡◌, ◌≤◌, ℕ, Some, Contains, IsPermutation, List, map}
use Rattle.std.specs.FinMap as names
use Rattle.std.specs.List.{AllZip}
use Rattle.rs_catalog_pages.specs.Items.{TableItem}
use Rattle.rs_facts.specs.Fact.{Name}
use Rattle.rs_facts.specs.Query.{Table}
use Rattle.rs_file.specs.Contents.{Contents}
use Rattle.rs_machine.specs.Lawful.{AreDistinct}
use Rattle.rs_versioned.specs.Events.{Event}
use Rattle.rs_versioned.specs.Referents.{ReferentRecord, referents_at}
use Rattle.rs_file_meaning.specs.Seen.{born_by, events_of, seen_events, seen_referents}
use Rattle.rs_file_meaning.specs.States.{world_at}

-- ---- records

-- each version from the oldest up to the one that was accepted last is shown what it was shown, in whatever order
pub record KeepsShown {R Y : Type 0} (shown : ℕ → List R → List Y) (oldest accepted : ℕ) (old now : List R) : Type 0 where
  pub each : (version : ℕ) → oldest ≤ version → version ≤ accepted → IsPermutation (shown version now) (shown version old)

abbrev pub KeepsEvents : (oldest accepted : ℕ) → List Event → List Event → Type 0
KeepsEvents = KeepsShown seen_events

abbrev pub KeepsReferents : (oldest accepted : ℕ) → List ReferentRecord → List ReferentRecord → Type 0
KeepsReferents = KeepsShown seen_referents

-- in each version from the oldest up to the one that was accepted last, the referents of a route have names of their own
pub record HaveOwnNames (oldest accepted : ℕ) (referents : List ReferentRecord) : Type 0 where
  pub each : (version route : ℕ) → oldest ≤ version → version ≤ accepted → AreDistinct (map (λ one. one.0) (referents_at version route referents))

-- ---- contents

-- The version sees what it saw: its routes, and in whatever order the events of each table, by the table's number, and the
-- referents. Each table that was there is there.
pub record SeesTheSame (version : ℕ) (old now : Contents) : Type 0 where
  pub routes : born_by version now.definitions.routes ≡ born_by version old.definitions.routes
  pub tables : (item : TableItem) → Contains old.definitions.tables item → Contains now.definitions.tables item
  pub events : (table : ℕ) → IsPermutation (seen_events version (events_of now table)) (seen_events version (events_of old table))
  pub referents : IsPermutation (seen_referents version now.referents.referents) (seen_referents version old.referents.referents)

-- each version from the oldest up to the one that had been accepted sees what it saw
pub record KeepsLive (oldest : ℕ) (old now : Contents) : Type 0 where
  pub each : (version : ℕ) → oldest ≤ version → version ≤ old.directory.accepted → SeesTheSame version old now

-- the definitions are the same, and these versions see of each table and of the referents what they saw
pub record KeepsRecords (oldest : ℕ) (old now : Contents) : Type 0 where
  pub definitions : now.definitions ≡ old.definitions
  pub tables : AllZip (λ was is. KeepsEvents oldest old.directory.accepted was.events is.events) old.tables now.tables
  pub referents : KeepsReferents oldest old.directory.accepted old.referents.referents now.referents.referents

-- at the version the routes are as they were, and so is each table that was there, by its name
pub record HasTheSameWorld (version : ℕ) (old now : Contents) : Type 0 where
  pub routes : (world_at now version).routes ≡ (world_at old version).routes
  pub tables : (name : Name) (table : Table) → names.get (world_at old version).tables name ≡ Some table
      → names.get (world_at now version).tables name ≡ Some table
