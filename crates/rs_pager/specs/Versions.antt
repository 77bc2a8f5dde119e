-- Which pages a content is a file of, in either version.
use Rattle.std.specs.Prelude.{◌⊎◌, ◌≤◌, ◌*◌, ℕ}
use Rattle.rs_disk.specs.Content.{Content}
use Rattle.rs_page.specs.declared.page.TheConstants.{PAGE_SIZE}
use Rattle.rs_pages.specs.PageMap.{PageMap, SamePages}
use Rattle.rs_page_cache.specs.Stored.{disk_page}
use Rattle.rs_pager.specs.FirstHeader.{IsFirstHeader}
use Rattle.rs_pager.specs.Lasts.{GivesMap}
use Rattle.rs_pager.specs.Stored.{stored_map}

-- A file of version 1: page 0 says the fields, with any open flag and a gate that is not open, the content is long enough, and the pages
-- are its bytes.
pub record StoresFirst (content : Content) (map : PageMap) : Type 0 where
  pub header : IsFirstHeader (disk_page content 0) map.fields
  pub size : PAGE_SIZE * map.fields.pages ≤ content.size
  pub pages : SamePages map (stored_map content map.fields)

-- the content is a file of these pages: in version 2 they are the ones that stand after recovery
abbrev pub IsFileOfPages : Content → PageMap → Type 0
IsFileOfPages content map = GivesMap map content ⊎ StoresFirst content map

-- the content is a file of no pages within this limit
pub record IsNoFile (content : Content) (limit : ℕ) : Type 0 where
  pub none : (map : PageMap) → IsFileOfPages content map → 2 ≤ map.fields.pages → map.fields.pages ≤ limit → ⊥
