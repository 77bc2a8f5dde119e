-- What becomes of the pages and of what is open once a change was made or refused.
use Rattle.std.specs.Prelude.{◌≡◌, ℕ, MatchResult, None, Result}
use Rattle.rs_disk.specs.declared.disk.Disk as disk
use Rattle.rs_file.specs.declared.opened.OpenedFile.{OpenedFile}
use Rattle.rs_file_parts.specs.Calls.{StaysOpened}
use Rattle.rs_file_parts.specs.Parts.{HaveAllDiedBy, IsAsItWas, IsCommitted, IsReady, KeepsCommitted}
use Rattle.rs_journal.specs.FilePages.{FilePages}
use Rattle.rs_pager.specs.Maps.{IsTied, IsKept as KeepsPages, committed, working}
use Rattle.rs_pager.specs.Opened.{Abandons, Commits}
use Rattle.rs_pager.specs.Paged.{Paged, held}
use Rattle.rs_pages.specs.PageMap.{SamePages}
use Rattle.rs_refusal.specs.declared.refusal.Refusal.{Refusal}
use Rattle.rs_store.specs.Calls.{KeepsStore}
use Rattle.rs_store.specs.Changing.{StillHolds}
use Rattle.rs_store.specs.Kept.{StoreState}

-- what is open is the same, and nothing of it has changed since the last commit
pub record IsFileKept (was is : OpenedFile) : Type 0 where
  pub stays : StaysOpened was is
  pub committed : IsCommitted is
  pub definitions : is.definitions ≡ was.definitions
  pub accepted : is.accepted ≡ was.accepted
  pub ready : IsReady was → IsReady is
  pub order : (version : ℕ) → HaveAllDiedBy version was → HaveAllDiedBy version is

-- what is open is as it was at the last commit, where only how its parts stand had changed
pub record IsFileTakenBack (was is : OpenedFile) : Type 0 where
  pub back : (file : OpenedFile) → IsCommitted file → KeepsCommitted file was → IsAsItWas file is
  pub committed : IsCommitted is
  pub ready : IsReady was → IsReady is

module _ {D : Type 0} (d : disk.Ghosts D) where
  -- the held changes are as they were or written, and the working pages are the committed ones
  pub record BeginsWith (old now : Paged D) : Type 0 where
    pub holds : StillHolds d old now
    pub copies : (number : ℕ) → (held now number).copy ≡ None
    pub fields : now.working ≡ now.committed_fields

  -- changes are begun in the pages of a store that keeps whatever the old one kept
  pub record HasBegun (old now : StoreState D) : Type 0 where
    pub keeps : KeepsStore d old now
    pub begins : BeginsWith old.pager now.pager
    pub failures : d.failures now.pager.disk ≡ d.failures old.pager.disk

  -- the working pages are the committed ones from now on, and so is what is open
  pub record IsKept (old new : Paged D) (was is : OpenedFile) : Type 0 where
    pub commits : Commits old new
    pub committed_pages : SamePages (committed d new) (working d old)
    pub working_pages : SamePages (working d new) (working d old)
    pub tied : IsTied d old → IsTied d new
    pub kept : (pages : FilePages) → KeepsPages d old pages → KeepsPages d new pages
    pub file : IsFileKept was is

  -- the working pages are the committed ones again, and so is what is open
  pub record IsTakenBack (old new : Paged D) (was is : OpenedFile) : Type 0 where
    pub abandons : Abandons old new
    pub committed_pages : SamePages (committed d new) (committed d old)
    pub working_pages : SamePages (working d new) (committed d old)
    pub tied : IsTied d old → IsTied d new
    pub kept : (pages : FilePages) → KeepsPages d old pages → KeepsPages d new pages
    pub file : IsFileTakenBack was is

  -- a change that was made is kept, and one that was refused is taken back
  abbrev pub Settles : {T : Type 0} → Result T Refusal → Paged D → Paged D → OpenedFile → OpenedFile → Type 0
  Settles made old new was is = MatchResult made (λ _. IsKept old new was is) (λ _. IsTakenBack old new was is)
