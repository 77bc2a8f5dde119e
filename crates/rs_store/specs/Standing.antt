-- Which disk stands for which state.
use Rattle.std.specs.Prelude.{◌≡◌, ◌≤◌, ℕ}
use Rattle.rs_disk.specs.Content.{Content}
use Rattle.rs_file.specs.Contents.{Contents}
use Rattle.rs_file_meaning.specs.Standing.{StandsFor}
use Rattle.rs_journal.specs.FilePages.{FilePages}
use Rattle.rs_journal.specs.Stages.{IsQuiet}
use Rattle.rs_machine.specs.State.{State}
use Rattle.rs_page.specs.declared.file_header.TheConstants.{FLAG_OFFSET}
use Rattle.rs_pager.specs.Maps.{ArePages}
use Rattle.rs_pager.specs.Versions.{IsFileOfPages, StoresFirst}
use Rattle.rs_pages.specs.PageMap.{PageMap}

-- the pages of a file within this limit stand for the state
pub record StandWithin (limit : ℕ) (pages : PageMap) (state : State) : Type 0 where
  pub within : pages.fields.pages ≤ limit
  pub contents : Contents
  pub stands : StandsFor pages contents state

-- The disk has the pages of a file that stands for the state: in version 2 those that stand after recovery, in version 1 those of a file
-- that was closed or not.
pub record IsFileOf (limit : ℕ) (disk : Content) (state : State) : Type 0 where
  pub pages : PageMap
  pub stores : IsFileOfPages disk pages
  pub stand : StandWithin limit pages state

-- The disk stands for the state: it is a file of it, and one of version 1 was closed.
pub record Stands (limit : ℕ) (disk : Content) (state : State) : Type 0 where
  pub file : IsFileOf limit disk state
  pub closed : StoresFirst disk file.pages → disk.byte FLAG_OFFSET ≡ 0

-- The disk has the pages of a file of version 2 in their places, with a closed gate, and they stand for the state.
pub record IsSecondFileOf (limit : ℕ) (disk : Content) (state : State) : Type 0 where
  pub pages : PageMap
  pub stand : StandWithin limit pages state
  pub file_pages : FilePages
  pub are : ArePages pages file_pages
  pub quiet : IsQuiet file_pages disk
