-- What a store in memory is.
use Rattle.std.specs.Prelude.{ℕ, true, nat_lt, Option, None, List, slice_get, if◌then◌else◌}
use Rattle.std.specs.Option.{option_map}
use Rattle.rs_page.specs.declared.page.Page.{Page}
use Rattle.rs_page.specs.declared.file_header.FileHeader.{FileHeader}
use Rattle.rs_pages.specs.Store.{Store}
use Rattle.rs_pages.specs.declared.plain.PlainPages.{PlainPages}

-- the bytes of the page with this number, in a list that begins with page 0
abbrev pub listed_page : List Page → ℕ → Option (List ℕ)
listed_page pages number = if nat_lt 0 number then option_map (λ page. page.bytes) (slice_get pages number) else None

-- pages in memory, each held as a working copy
abbrev pub listed_store : List Page → FileHeader → ℕ → ℕ → Store
listed_store pages fields limit full = record {
  map = record { fields = fields; page = listed_page pages };
  held = λ number. record { committed = None; copy = listed_page pages number };
  limit = limit;
  failures = 0;
  full_refusals = full;
  is_begun = true;
}

-- the pages in memory
abbrev pub plain_store : PlainPages → Store
plain_store s = listed_store s.pages.items s.fields s.limit s.full_refusals
