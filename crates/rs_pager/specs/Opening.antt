-- What is known of page 0 as a file is opened.
use Rattle.std.specs.Prelude.{◌≤◌, ◌*◌, ℕ}
use Rattle.rs_disk.specs.Content.{Content}
use Rattle.rs_disk.specs.declared.disk.Disk as disk
use Rattle.rs_page.specs.declared.page.TheConstants.{PAGE_SIZE}
use Rattle.rs_page.specs.declared.file_header.FileHeader.{FileHeader}
use Rattle.rs_pages.specs.PageMap.{PageMap}
use Rattle.rs_page_cache.specs.Stored.{disk_page}
use Rattle.rs_journal.specs.FilePages.{FilePages}
use Rattle.rs_journal.specs.Journal.{Recovers}
use Rattle.rs_journal.specs.Stages.{EveryImage, IsQuiet}
use Rattle.rs_pager.specs.FirstHeader.{IsFirstHeader}
use Rattle.rs_pager.specs.Lasts.{GivesMap}
use Rattle.rs_pager.specs.SecondHeader.{IsSecondHeader}

-- page 0 is a header of version 1 with these fields, whose count is within the limit and the content
pub record FitsFirst (limit : ℕ) (content : Content) (fields : FileHeader) : Type 0 where
  pub header : IsFirstHeader (disk_page content 0) fields
  pub least : 2 ≤ fields.pages
  pub within : fields.pages ≤ limit
  pub room : PAGE_SIZE * fields.pages ≤ content.size

-- and one of version 2
pub record FitsSecond (limit : ℕ) (content : Content) (fields : FileHeader) : Type 0 where
  pub header : IsSecondHeader (disk_page content 0) fields
  pub least : 2 ≤ fields.pages
  pub within : fields.pages ≤ limit
  pub room : PAGE_SIZE * fields.pages ≤ content.size

-- page 0 is a header of version 1
pub record HasFirst (content : Content) : Type 0 where
  pub fields : FileHeader
  pub header : IsFirstHeader (disk_page content 0) fields

-- the content is a file of version 2 of no pages within this limit
pub record IsNoSecond (content : Content) (limit : ℕ) : Type 0 where
  pub none : (map : PageMap) → GivesMap map content → 2 ≤ map.fields.pages → map.fields.pages ≤ limit → ⊥

-- so many pages of a content, as it has them
abbrev pub pages_of : Content → ℕ → FilePages
pages_of content count = record { count = count; byte = content.byte }

module _ {D : Type 0} (d : disk.Ghosts D) where
  -- Page 0 says these fields now. The pages that they count are there in each image that a crash may leave, and they are the ones that
  -- the disk gave before.
  pub record RecoversFields (limit : ℕ) (old new : D) (fields : FileHeader) : Type 0 where
    pub fits : FitsSecond limit (d.seen new) fields
    pub gave : Recovers (d.seen old) (pages_of (d.seen new) fields.pages)
    pub quiet : EveryImage d (IsQuiet (pages_of (d.seen new) fields.pages)) new
