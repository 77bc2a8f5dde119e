-- What a read of an engine leaves, why it is refused, and what is shown of it: the state of the version that was accepted last, and each
-- live version.
use Rattle.std.specs.Prelude.{◌≡◌, ◌⊎◌, ◌≤◌, ℕ, List}
use Rattle.rs_answers.specs.Present.{IsPresent}
use Rattle.rs_answers.specs.Shown.{HasDefinitions}
use Rattle.rs_answers.specs.Versions.{SeenVersion}
use Rattle.rs_catalog.specs.Referents.{referents_on}
use Rattle.rs_disk.specs.declared.disk.Disk as disk
use Rattle.rs_exec.specs.Snapshot.{Snapshots}
use Rattle.rs_engine.specs.Kept.{EngineState, seen_at}
use Rattle.rs_machine.specs.State.{State}
use Rattle.rs_plan.specs.Counted.{Counted}
use Rattle.rs_plan.specs.declared.counts.Index.{Index}
use Rattle.rs_refusal.specs.Counts.{Rose}
use Rattle.rs_refusal.specs.declared.refusal.Refusal.{Refusal}
use Rattle.rs_refusal.specs.declared.refusal.Refusal.TheVariants as refusal
use Rattle.rs_store_source.specs.Kept.{StandsIn, StoreState}
use Rattle.rs_store_source.specs.Reading.{living_of}
use Rattle.rs_store_source.specs.Reads.{Passes}
use Rattle.rs_store_source.specs.Shown.{Shows}

-- what the plans of a store are chosen by
abbrev pub counted_of : {D : Type 0} → StoreState D → List Index → Counted
counted_of store indexes = record { records = living_of store.file; indexes = indexes }

-- what is seen is what the engine has in memory, beside the rows of the state
pub record IsSeenNow {D : Type 0} (engine : EngineState D) (state : State) (seen : SeenVersion) : Type 0 where
  pub defined : HasDefinitions engine.store.catalog (referents_on engine.store.referents) seen
  pub present : IsPresent engine.store.catalog engine.store.referents state seen.snapshot

module _ {D : Type 0} (d : disk.Ghosts D) where
  -- a read of a store that is looked at from a version on leaves all that is kept
  pub record ReadsFrom (oldest : ℕ) (old : StoreState D) (from : ℕ) (new : StoreState D) : Type 0 where
    pub store : Passes d old new
    pub oldest_stays : from ≡ oldest

  -- the store stands in a state, and this is what a live version sees of its contents
  pub record ShowsVersion (oldest : ℕ) (store : StoreState D) (version : ℕ) (seen : SeenVersion) : Type 0 where
    pub state : State
    pub stands : StandsIn d oldest store state
    pub from : oldest ≤ version
    pub upto : version ≤ store.file.accepted
    pub is : seen ≡ seen_at stands.contents version

  -- as a source the engine shows the state at the version that was accepted last, by the definitions and the referents in memory
  pub record StandsNow (engine : EngineState D) (state : State) : Type 0 where
    pub snapshots : Snapshots
    pub shows : Shows d engine.oldest engine.store snapshots
    pub present : IsPresent engine.store.catalog engine.store.referents state (snapshots engine.store.file.accepted)

  -- a read leaves all that is kept, the oldest version that is looked at, and the cursors
  pub record ReadsEngine (old new : EngineState D) : Type 0 where
    pub store : Passes d old.store new.store
    pub oldest : new.oldest ≡ old.oldest
    pub cursors : new.cursors ≡ old.cursors

  -- so does one for a cursor, but for lines that were formed ahead
  pub record ReadsCursor (old new : EngineState D) : Type 0 where
    pub store : Passes d old.store new.store
    pub oldest : new.oldest ≡ old.oldest
    pub held : new.cursors.held ≡ old.cursors.held

  -- from this version on the store stands in no state
  pub record StandsNowhere (oldest : ℕ) (store : StoreState D) : Type 0 where
    pub none : (state : State) → StandsIn d oldest store state → ⊥

  -- Why reads are refused that begin with the one store and end with the other: for want of memory, where failures of the disk rose, and
  -- where the store stood in no state from the version on from which it is looked at.
  abbrev pub WantsFrom : Refusal → ℕ → StoreState D → StoreState D → Type 0
  WantsFrom why oldest old new =
      (why ≡ refusal.OutOfMemory)
      ⊎ ((why ≡ refusal.Disk) × Rose (d.failures old.pager.disk) (d.failures new.pager.disk))
      ⊎ ((why ≡ refusal.DamagedFile) × StandsNowhere oldest old)

  -- the same of engines
  abbrev pub WantsRead : Refusal → EngineState D → EngineState D → Type 0
  WantsRead why old new = WantsFrom why old.oldest old.store new.store
