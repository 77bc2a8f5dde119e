-- The places of the catalogue's bytes in its pages.
use Rattle.std.specs.Prelude.{◌*◌, ℕ, List, take, drop, slice_index_or}
use Rattle.rs_page.specs.declared.header.TheConstants.{PAGE_ROOM}

-- the page at a place of the list; 0 past the last
abbrev pub number_from : List ℕ → ℕ → ℕ
number_from numbers index = slice_index_or numbers index 0

-- the bytes for the page at a place of the list
unfoldable pub part_at : List ℕ → ℕ → List ℕ
part_at bytes index = take PAGE_ROOM (drop (index * PAGE_ROOM) bytes)
