-- What a look at a file shows of it, as a file.
use Rattle.std.specs.Prelude.{◌≡◌, ◌≢◌, ◌≤◌}
use Rattle.rs_disk.specs.Content.{Content}
use Rattle.rs_journal.specs.Look.{shown}
use Rattle.rs_journal.specs.declared.limits.TheConstants.{GATE, OPEN, FORMAT_BYTE, FIRST_FORMAT}
use Rattle.rs_page.specs.declared.file_header.TheConstants.{FLAG_OFFSET}
use Rattle.rs_pages.specs.PageMap.{PageMap}
use Rattle.rs_pager.specs.Lasts.{GivesMap}
use Rattle.rs_pager.specs.Versions.{IsFileOfPages, StoresFirst}

-- the gate is open, and page 0 as the journal gives it is in format 1: such a file is one of neither version
pub record GivesFirst (content : Content) : Type 0 where
  pub opened : content.byte GATE ≡ OPEN
  pub format : (shown content).byte FORMAT_BYTE ≡ FIRST_FORMAT

-- One content shows another as a file: a file of version 2 as one of the same pages, and so a closed one of version 1; one of version 1
-- that was not closed is shown as it is. Nothing else is shown as a file.
pub record ShowsSameFile (content look : Content) : Type 0 where
  pub second : (map : PageMap) → GivesMap map content → GivesMap map look
  pub closed : (map : PageMap) → 2 ≤ map.fields.pages → StoresFirst content map → content.byte FLAG_OFFSET ≡ 0 → GivesMap map look
  pub left_open : (map : PageMap) → 2 ≤ map.fields.pages → StoresFirst content map → content.byte FLAG_OFFSET ≢ 0 → StoresFirst look map
  pub others : (map : PageMap) → 2 ≤ map.fields.pages → IsFileOfPages look map → IsFileOfPages content map
  pub first : (map : PageMap) → 2 ≤ map.fields.pages → StoresFirst look map → StoresFirst content map
  pub flag : (map : PageMap) → 2 ≤ map.fields.pages → StoresFirst look map → look.byte FLAG_OFFSET ≡ content.byte FLAG_OFFSET

-- the content is a file of no pages
pub record IsFileOfNone (content : Content) : Type 0 where
  pub none : (map : PageMap) → 2 ≤ map.fields.pages → IsFileOfPages content map → ⊥
