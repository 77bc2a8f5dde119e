-- The pages that a checkpoint copies.
use Rattle.std.specs.Prelude.{◌≡◌, ◌⊎◌, ◌<◌, ◌≤◌, ℕ, Bool, true, Some, IsSome, List, length, slice_index}
use Rattle.std.specs.Option.{unwrap_or}
use Rattle.rs_page.specs.declared.page.TheConstants.{PAGE_SIZE}
use Rattle.rs_pages.specs.declared.pages.TheConstants.{GREATEST_LIMIT}
use Rattle.rs_page_cache.specs.Changes.{Changes, held_at}
use Rattle.rs_journal.specs.Journal.{Journal, Ascends}
use Rattle.rs_journal.specs.declared.stage.Stage.{Stage}

-- a checkpoint that is under way, or none: its stage, the numbers of the pages that it copies, and page 0 as it is copied
pub record Checkpoint : Type 0 where
  pub stage : Stage
  pub numbers : List ℕ
  pub first_page : List ℕ

-- the numbers of pages that are copied, the changed pages that are held, and page 0
pub record CopiedPages : Type 0 where
  pub numbers : List ℕ
  pub changes : Changes
  pub first_page : List ℕ

-- the bytes of the copy of the page with this number: the committed page where it is held, else page 0
abbrev pub copy_in : Changes → List ℕ → ℕ → List ℕ
copy_in changes first_page number = unwrap_or (held_at changes number).committed first_page

-- the journal of a checkpoint's pages from this page on
abbrev pub journal_from : ℕ → Changes → Checkpoint → Journal
journal_from first changes checkpoint = record {
  first = first;
  count = length checkpoint.numbers;
  number = λ place. slice_index checkpoint.numbers place;
  copy = λ place k. slice_index (copy_in changes checkpoint.first_page (slice_index checkpoint.numbers place)) k;
}

-- each number is greater than those before it, and one that a file's page may have
pub record AreOrdered (numbers : List ℕ) : Type 0 where
  pub ascending : Ascends (length numbers) (slice_index numbers)
  pub below : (k : ℕ) → k < length numbers → slice_index numbers k < GREATEST_LIMIT

-- the page with this number is to be copied: it is page 0 and its fields are changed, or its committed version is held
abbrev pub IsChanged : Changes → Bool → ℕ → Type 0
IsChanged changes is_header_changed number =
    ((number ≡ 0) × (is_header_changed ≡ true)) ⊎ IsSome (held_at changes number).committed

-- the numbers are those of the pages that are to be copied, in ascending order, and each that is held is a whole page
pub record ListsCommitted (changes : Changes) (is_header_changed : Bool) (numbers : List ℕ) : Type 0 where
  pub ascending : Ascends (length numbers) (slice_index numbers)
  pub each : (k : ℕ) → k < length numbers → IsChanged changes is_header_changed (slice_index numbers k)
  pub all : (number : ℕ) → IsChanged changes is_header_changed number → (k : ℕ) × (k < length numbers) × (slice_index numbers k ≡ number)
  pub whole : (number : ℕ) (page : List ℕ) → (held_at changes number).committed ≡ Some page → length page ≡ PAGE_SIZE

-- each committed page that is held is one of so many pages of a file, and none is page 0
pub record AreInside (changes : Changes) (pages : ℕ) : Type 0 where
  pub after : (number : ℕ) → IsSome (held_at changes number).committed → 0 < number
  pub below : (number : ℕ) → IsSome (held_at changes number).committed → number < pages

-- each page from the first count up to the second is held as committed
abbrev pub AreFilled : Changes → ℕ → ℕ → Type 0
AreFilled changes from to = (number : ℕ) → from ≤ number → number < to → IsSome (held_at changes number).committed
