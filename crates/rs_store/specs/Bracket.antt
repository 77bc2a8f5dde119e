-- A change from its beginning to its end: what begins it, how it comes to rest, and in which state it leaves a store.
use Rattle.std.specs.Prelude.{◌≡◌, ◌≤◌, ◌+◌, ◌⊎◌, ℕ, IfErr, MatchResult, OnErr, OnOk, Result}
use Rattle.std.specs.List.{AllByRecursion}
use Rattle.rs_catalog.specs.Definitions.{Definitions, Numbered}
use Rattle.rs_catalog.specs.Referents.{HeldReferents}
use Rattle.rs_catalog_pages.specs.Said.{said_catalogue}
use Rattle.rs_changes.specs.Calls.{MayChange}
use Rattle.rs_disk.specs.declared.disk.Disk as disk
use Rattle.rs_file.specs.declared.opened.OpenedFile.{OpenedFile}
use Rattle.rs_machine.specs.Lawful.{AreColumnsOfTable, Each}
use Rattle.rs_machine.specs.State.{State}
use Rattle.rs_pager.specs.Opened.{CountsFault}
use Rattle.rs_pager.specs.Paged.{Paged}
use Rattle.rs_refusal.specs.declared.refusal.Refusal.{Refusal}
use Rattle.rs_refusal.specs.declared.refusal.Refusal.TheVariants as refusal
use Rattle.rs_store.specs.Calls.{KeepsStore}
use Rattle.rs_store.specs.Changing.{HasBecome, StillHolds}
use Rattle.rs_store.specs.Kept.{StandsIn, StoreState}
use Rattle.rs_store.specs.Settling.{BeginsWith}
use Rattle.rs_stored_catalog.specs.Listing.{listing_of}

-- ---- how it comes to rest

-- What is open is at the next version and can be changed again. The catalogue in memory lists its definitions, whose routes were born by
-- that version, and each table has columns that a table may have.
pub record ComesToRest (was is : OpenedFile) (now : Definitions) : Type 0 where
  pub may : MayChange is
  pub accepted : is.accepted ≡ was.accepted + 1
  pub listing : listing_of now ≡ said_catalogue is.definitions
  pub births : AllByRecursion (λ route. route.born ≤ was.accepted + 1) (said_catalogue is.definitions).routes
  pub columns : Each now.tables (λ name table. AreColumnsOfTable table.columns)

module _ {D : Type 0} (d : disk.Ghosts D) where
  -- ---- its beginning

  -- Changes are begun in pages over which a store keeps what it kept, whatever is open and in memory; or there was no memory or the disk
  -- failed, and none are.
  pub record BeginsChange (result : Result (Unit {0}) Refusal) (old new : Paged D) : Type 0 where
    pub keeps : (file : OpenedFile) (catalog : Definitions) (referents : Numbered HeldReferents)
        → KeepsStore d (record { pager = old; file = file; catalog = catalog; referents = referents })
        (record { pager = new; file = file; catalog = catalog; referents = referents })
    pub begins : OnOk result (BeginsWith d old new)
    pub unbegun : OnErr result (StillHolds d old new)
    pub refused : IfErr result (λ why. (why ≡ refusal.OutOfMemory) ⊎ (why ≡ refusal.Disk))
    pub count : MatchResult result (λ _. d.failures new.disk ≡ d.failures old.disk) (λ why. CountsFault why (d.failures old.disk) (d.failures new.disk))

  -- ---- its end

  -- In whatever state the store stood that allows the change, it stands in the next one, and versions from the oldest on see what they saw.
  abbrev pub StandsNext : {T : Type 0} → ℕ → (State → Type 0) → (State → State) → Result T Refusal → StoreState D → StoreState D → Type 0
  StandsNext oldest may next result old new = (from : ℕ) (state : State) (stands : StandsIn d from old state) → from ≤ oldest → oldest ≤ old.file.accepted + 1
      → may state → OnOk result (HasBecome d oldest stands.contents new (next state))
