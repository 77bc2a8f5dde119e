-- The pages of a file, by their bytes.
use Rattle.std.specs.Prelude.{◌≡◌, ℕ, ◌*◌, ◌+◌, ◌<◌, ◌≤◌}
use Rattle.rs_disk.specs.Content.{Content}
use Rattle.rs_disk.specs.Reaches.{IsOutside}
use Rattle.rs_page.specs.declared.page.TheConstants.{PAGE_SIZE}
use Rattle.rs_journal.specs.declared.limits.TheConstants.{GATE, FIELDS_END}

-- how many pages there are, and the byte at each offset of them
pub record FilePages : Type 0 where
  pub count : ℕ
  pub byte : ℕ → ℕ

-- the byte at this offset is one of the pages': the gate and the journal's fields are not
abbrev pub IsOfPages : ℕ → Type 0
IsOfPages i = IsOutside GATE FIELDS_END i

-- the content has these pages where they lie
pub record HasPages (pages : FilePages) (content : Content) : Type 0 where
  pub size : PAGE_SIZE * pages.count ≤ content.size
  pub bytes : (i : ℕ) → i < PAGE_SIZE * pages.count → IsOfPages i → content.byte i ≡ pages.byte i

-- the same pages, whatever they have for the gate and the journal's fields
pub record SamePages (one other : FilePages) : Type 0 where
  pub count : one.count ≡ other.count
  pub bytes : (i : ℕ) → i < PAGE_SIZE * one.count → IsOfPages i → one.byte i ≡ other.byte i

-- the number in the four bytes from an offset on, the highest byte first
unfoldable pub word_at : (ℕ → ℕ) → ℕ → ℕ
word_at byte at = 16777216 * byte at + 65536 * byte (at + 1) + 256 * byte (at + 2) + byte (at + 3)
