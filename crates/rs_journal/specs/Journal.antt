-- A journal, where it lies in a file, and what it makes of the file's pages.
use Rattle.std.specs.Prelude.{◌≡◌, ◌≢◌, ℕ, ◌+◌, ◌*◌, ◌/◌, ◌^◌, ◌<◌, ◌≤◌}
use Rattle.rs_disk.specs.Content.{Content}
use Rattle.rs_page.specs.declared.page.TheConstants.{PAGE_SIZE}
use Rattle.rs_journal.specs.declared.copies.Copies as copies
use Rattle.rs_journal.specs.declared.limits.TheConstants.{GATE, FIELDS, FIELDS_END, NUMBERS_OF_A_PAGE}
use Rattle.rs_journal.specs.FilePages.{FilePages, IsOfPages, HasPages, word_at}
use Rattle.rs_disk.specs.Reaches.{IsOutside}

-- its first page, how many pages it copies, and by place the number of each home page and the bytes of its copy
pub record Journal : Type 0 where
  pub first : ℕ
  pub count : ℕ
  pub number : ℕ → ℕ
  pub copy : ℕ → ℕ → ℕ

-- how many pages the numbers of so many copies fill
abbrev pub number_pages : ℕ → ℕ
number_pages count = (count + 1023) / NUMBERS_OF_A_PAGE

-- the page of the first copy
abbrev pub copies_start : Journal → ℕ
copies_start journal = journal.first + number_pages journal.count

-- Bytes 68 to 75 say the journal's first page and how many pages it copies.
pub record HasFields (first count : ℕ) (content : Content) : Type 0 where
  pub first_page : word_at content.byte FIELDS ≡ first
  pub copies : word_at content.byte (FIELDS + 4) ≡ count
  pub inside : FIELDS_END ≤ content.size

-- the first so many numbers are there, in so many pages from this one on
pub record HasNumbers (first pages count : ℕ) (number : ℕ → ℕ) (content : Content) : Type 0 where
  pub each : (k : ℕ) → k < count → k < NUMBERS_OF_A_PAGE * pages
      → word_at content.byte (PAGE_SIZE * first + 4 * k) ≡ number k
  pub inside : 0 < pages → PAGE_SIZE * (first + pages) ≤ content.size

-- the numbers of one page are there: those of the copies from the page's first place on
pub record HasNumberPage (first page count : ℕ) (number : ℕ → ℕ) (content : Content) : Type 0 where
  pub each : (k : ℕ) → k < count → NUMBERS_OF_A_PAGE * page ≤ k → k < NUMBERS_OF_A_PAGE * page + NUMBERS_OF_A_PAGE
      → word_at content.byte (PAGE_SIZE * first + 4 * k) ≡ number k
  pub inside : PAGE_SIZE * (first + page) + PAGE_SIZE ≤ content.size

-- the first so many copies are there, from this page on
pub record HasCopies (start count : ℕ) (copy : ℕ → ℕ → ℕ) (content : Content) : Type 0 where
  pub each : (k j : ℕ) → k < count → j < PAGE_SIZE
      → content.byte (PAGE_SIZE * (start + k) + j) ≡ copy k j
  pub inside : 0 < count → PAGE_SIZE * (start + count) ≤ content.size

-- the journal is there, all of it, whether the gate is open or not
pub record HasJournal (journal : Journal) (content : Content) : Type 0 where
  pub fields : HasFields journal.first journal.count content
  pub numbers : HasNumbers journal.first (number_pages journal.count) journal.count journal.number content
  pub copies : HasCopies (copies_start journal) journal.count journal.copy content

-- each number is greater than those before it
abbrev pub Ascends : ℕ → (ℕ → ℕ) → Type 0
Ascends count number = (j k : ℕ) → j < k → k < count → number j < number k

-- each number is below this one
abbrev pub AreBelow : ℕ → ℕ → (ℕ → ℕ) → Type 0
AreBelow bound count number = (k : ℕ) → k < count → number k < bound

-- the page after the last copy
abbrev pub end_page : ℕ → ℕ → ℕ
end_page first count = first + number_pages count + count

-- the numbers are in order, none twice and none of a page of the journal or after it, and a disk can count its pages
pub record IsWellFormed (journal : Journal) : Type 0 where
  pub ascending : Ascends journal.count journal.number
  pub below : AreBelow journal.first journal.count journal.number
  pub counted : end_page journal.first journal.count < 2 ^ 32

-- the byte at this offset lies in none of these pages
abbrev pub IsApart : ℕ → (ℕ → ℕ) → ℕ → Type 0
IsApart count number i = (k : ℕ) → k < count → IsOutside (PAGE_SIZE * number k) (PAGE_SIZE * number k + PAGE_SIZE) i

-- the byte at this offset lies in no page that is copied
abbrev pub IsNotCopied : Journal → ℕ → Type 0
IsNotCopied journal i = IsApart journal.count journal.number i

-- these pages are the copies in the places of the pages that they copy, and else those of this content
pub record Overlays (journal : Journal) (pages : FilePages) (content : Content) : Type 0 where
  pub copied : (k j : ℕ) → k < journal.count → j < PAGE_SIZE
      → PAGE_SIZE * journal.number k + j < PAGE_SIZE * pages.count
      → IsOfPages (PAGE_SIZE * journal.number k + j)
      → pages.byte (PAGE_SIZE * journal.number k + j) ≡ journal.copy k j
  pub others : (i : ℕ) → i < PAGE_SIZE * pages.count → IsOfPages i → IsNotCopied journal i
      → content.byte i ≡ pages.byte i
  pub size : PAGE_SIZE * pages.count ≤ content.size

-- a journal of an image whose gate is open: well formed, all of it in the file
pub record Tells (image : Content) (journal : Journal) : Type 0 where
  pub there : HasJournal journal image
  pub well_formed : IsWellFormed journal

-- an image whose gate is open gives pages: there is a journal, and it is well formed
pub record IsTold (image : Content) : Type 0 where
  pub journal : Journal
  pub tells : Tells image journal

-- what an image whose gate is open gives
pub record RecoversBy (image : Content) (pages : FilePages) : Type 0 where
  pub journal : Journal
  pub tells : Tells image journal
  pub overlays : Overlays journal pages image

-- The pages of an image. With a closed gate they are its home pages. With an open one they are these too, but for the
-- pages that the journal copies, which are its copies; where that journal isn't well formed there are none.
pub record Recovers (image : Content) (pages : FilePages) : Type 0 where
  pub opened : image.byte GATE ≡ 1 → RecoversBy image pages
  pub shut : image.byte GATE ≢ 1 → HasPages pages image

-- the journal is well formed, and its copies are these pages in their places
pub record Carries (journal : Journal) (checkpoint : FilePages) : Type 0 where
  pub well_formed : IsWellFormed journal
  pub some : 0 < checkpoint.count
  pub copied : (k j : ℕ) → k < journal.count → j < PAGE_SIZE
      → PAGE_SIZE * journal.number k + j < PAGE_SIZE * checkpoint.count
      → IsOfPages (PAGE_SIZE * journal.number k + j)
      → checkpoint.byte (PAGE_SIZE * journal.number k + j) ≡ journal.copy k j

-- The journal of a checkpoint makes of the pages kept last those of the checkpoint. It comes after both.
pub record MakesPages (journal : Journal) (kept checkpoint : FilePages) : Type 0 where
  pub carries : Carries journal checkpoint
  pub some_kept : 0 < kept.count
  pub after_kept : kept.count ≤ journal.first
  pub after : checkpoint.count ≤ journal.first
  pub others : (i : ℕ) → i < PAGE_SIZE * checkpoint.count → IsOfPages i → IsNotCopied journal i
      → (i < PAGE_SIZE * kept.count) × (kept.byte i ≡ checkpoint.byte i)
  pub no_copy : journal.count ≡ 0 → checkpoint.count ≤ kept.count

-- the page with this number is copied
pub record IsCopied (journal : Journal) (number : ℕ) : Type 0 where
  pub place : ℕ
  pub inside : place < journal.count
  pub is : journal.number place ≡ number

-- each page from the first count up to the second is copied
abbrev pub Fills : Journal → ℕ → ℕ → Type 0
Fills journal from to = (number : ℕ) → from ≤ number → number < to → IsCopied journal number

-- so many pages that the journal makes of the pages kept last
pub record MadePages (journal : Journal) (kept : FilePages) (count : ℕ) : Type 0 where
  pub checkpoint : FilePages
  pub counts : checkpoint.count ≡ count
  pub makes : MakesPages journal kept checkpoint

module _ {C : Type 0} (c : copies.Ghosts C) where
  -- the journal of these copies from this page on
  abbrev pub journal_of : ℕ → C → Journal
  journal_of first pages = record {
    first = first;
    count = c.count pages;
    number = c.number pages;
    copy = c.byte pages;
  }
