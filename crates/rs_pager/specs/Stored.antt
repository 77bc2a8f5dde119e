-- What the content of a disk stands for.
use Rattle.std.specs.Prelude.{◌≤◌, ◌*◌, ℕ, Some, None, if◌then◌else◌}
use Rattle.rs_disk.specs.Content.{Content}
use Rattle.rs_page.specs.declared.page.TheConstants.{PAGE_SIZE}
use Rattle.rs_page.specs.declared.file_header.FileHeader.{FileHeader}
use Rattle.rs_pages.specs.PageMap.{PageMap, SamePages, is_page}
use Rattle.rs_page_cache.specs.Stored.{disk_page}
use Rattle.rs_journal.specs.FilePages.{FilePages}
use Rattle.rs_pager.specs.SecondHeader.{IsSecondHeader}

-- the pages of a file of these fields, as the content has them
abbrev pub stored_map : Content → FileHeader → PageMap
stored_map content fields = record {
  fields = fields;
  page = λ number. if is_page fields.pages number then Some (disk_page content number) else None;
}

-- the content stands for these pages: page 0 says their fields, the content is long enough, and the bytes are its
pub record Stores (content : Content) (map : PageMap) : Type 0 where
  pub header : IsSecondHeader (disk_page content 0) map.fields
  pub size : PAGE_SIZE * map.fields.pages ≤ content.size
  pub pages : SamePages map (stored_map content map.fields)

-- the bytes of a file's pages
abbrev pub content_of_pages : FilePages → Content
content_of_pages pages = record { size = PAGE_SIZE * pages.count; byte = pages.byte }
