-- What a store is, what it keeps, and in which state it stands.
use Rattle.std.specs.Prelude.{◌≡◌, ◌≤◌, ℕ, Bool, false}
use Rattle.std.specs.List.{AllByRecursion}
use Rattle.rs_catalog.specs.Definitions.{Definitions, Numbered}
use Rattle.rs_catalog.specs.Referents.{HeldReferents}
use Rattle.rs_catalog_pages.specs.Said.{said_catalogue}
pub use Rattle.rs_changes.specs.Standing.{AreInMemory, IsOpenedFile}
use Rattle.rs_changes.specs.Calls.{MayChange}
pub use Rattle.rs_changes.specs.Garbage.{dead_of, garbage_of}
use Rattle.rs_disk.specs.declared.disk.Disk as disk
use Rattle.rs_file.specs.Contents.{Contents, HoldsAll}
use Rattle.rs_file.specs.declared.opened.OpenedFile.{OpenedFile}
use Rattle.rs_file_meaning.specs.Meant.{IsMeant}
use Rattle.rs_file_meaning.specs.States.{IsState}
use Rattle.rs_file_parts.specs.Parts.{IsCommitted}
use Rattle.rs_machine.specs.Lawful.{AreColumnsOfTable, AreViewsMeant, Each}
use Rattle.rs_machine.specs.State.{State}
use Rattle.rs_machine.specs.declared.limits.TheConstants.{CHANGES}
use Rattle.rs_pager.specs.Maps.{IsTied, committed, working}
use Rattle.rs_pager.specs.Paged.{Paged}
use Rattle.rs_pages.specs.PageMap.{SamePages}
use Rattle.rs_stored_catalog.specs.Listing.{listing_of}

-- the pages over the disk, what is open of the file, and the definitions and the referents in memory
pub record StoreState (D : Type 0) : Type 0 where
  pub pager : Paged D
  pub file : OpenedFile
  pub catalog : Definitions
  pub referents : Numbered HeldReferents

-- What is open can be changed, and nothing of it has changed since the last commit. The catalogue in memory lists its very definitions,
-- whose routes were born by the version that was accepted last, and each table has columns that a table may have.
pub record IsAtRest (file : OpenedFile) (catalog : Definitions) : Type 0 where
  pub may : MayChange file
  pub committed : IsCommitted file
  pub listing : listing_of catalog ≡ said_catalogue file.definitions
  pub births : AllByRecursion (λ route. route.born ≤ file.accepted) (said_catalogue file.definitions).routes
  pub columns : Each catalog.tables (λ name table. AreColumnsOfTable table.columns)
  pub bound : file.accepted ≤ CHANGES

-- no changes are begun, and what is open and in memory is at rest
pub record IsSound (is_begun : Bool) (file : OpenedFile) (catalog : Definitions) : Type 0 where
  pub shut : is_begun ≡ false
  pub rests : IsAtRest file catalog

module _ {D : Type 0} (d : disk.Ghosts D) where
  -- The store keeps these contents: its committed pages hold them, and nothing has changed in them since. What is open is theirs,
  -- and so is what is in memory.
  pub record Keeps (store : StoreState D) (contents : Contents) : Type 0 where
    pub tied : IsTied d store.pager
    pub same : SamePages (working d store.pager) (committed d store.pager)
    pub holds : HoldsAll (committed d store.pager) contents
    pub opened : IsOpenedFile store.file contents
    pub memory : AreInMemory store.catalog store.referents contents

  -- the store keeps contents which are meant from the oldest version on, and have this state
  pub record StandsIn (oldest : ℕ) (store : StoreState D) (state : State) : Type 0 where
    pub contents : Contents
    pub keeps : Keeps store contents
    pub live : oldest ≤ contents.directory.accepted
    pub meant : IsMeant oldest contents
    pub is : IsState contents state
    pub views : AreViewsMeant state
