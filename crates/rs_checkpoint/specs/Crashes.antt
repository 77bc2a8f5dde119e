-- What a crash leaves of a checkpoint, and what is kept after it.
use Rattle.std.specs.Prelude.{◌≡◌, ◌⊎◌, IsTrue, false, Result, OnErr, OnOk}
use Rattle.rs_disk.specs.Content.{Content}
use Rattle.rs_disk.specs.declared.disk.Disk as disk
use Rattle.rs_journal.specs.FilePages.{FilePages}
use Rattle.rs_journal.specs.Stages.{IsQuiet}
use Rattle.rs_pager.specs.Lasts.{GivesMap, KeepsMap}
use Rattle.rs_pager.specs.Maps.{IsKept, IsTied, committed}
use Rattle.rs_pager.specs.Paged.{Paged}

module _ {D : Type 0} (d : disk.Ghosts D) where
  -- Each image that a crash might have left since the start of the call has the pages kept last at the start, with a closed gate, or gives
  -- the committed ones.
  pub record LeavesKept (old new : Paged D) : Type 0 where
    pub either : (kept : FilePages) → IsTied d old → IsKept d old kept → IsTrue (d.keeps_crashes old.disk) → (image : Content)
        → d.left_since old.disk new.disk image → IsQuiet kept image ⊎ GivesMap (committed d old) image

  -- After Ok the committed pages are kept, and each image that a crash may leave gives them. After a refusal the pages that were kept
  -- are kept still, or the committed ones are.
  pub record KeepsCommitted {T E : Type 0} (result : Result T E) (old new : Paged D) : Type 0 where
    pub done : IsTied d old → OnOk result (KeepsMap d new (committed d old))
    pub images : IsTied d old → OnOk result (IsTrue (d.keeps_crashes new.disk) → (image : Content) → d.may_leave new.disk image
        → GivesMap (committed d old) image)
    pub refused : (kept : FilePages) → IsTied d old → IsKept d old kept → OnErr result (IsKept d new kept ⊎ KeepsMap d new (committed d old))

  -- after Ok the disk is a file of version 2 of the same pages, which are kept
  pub record Migrates {T E : Type 0} (result : Result T E) (old new : Paged D) : Type 0 where
    pub kept : IsTied d old → OnOk result (KeepsMap d new (committed d old))
    pub second : OnOk result (new.is_header_changed ≡ false)
    pub gives : IsTied d old → OnOk result (GivesMap (committed d old) (d.seen new.disk))
