-- What a look at a file shows: the pages that stand after recovery, in the content that the file has. Nothing is written.
use Rattle.std.specs.Prelude.{◌≡◌, ℕ, zero, suc, ◌+◌, ◌*◌, ◌/◌, ◌%◌, ◌<◌, ◌≤◌, Bool, true, false, not, ◌&&◌, ◌==◌, nat_le, nat_lt, if◌then◌else◌, List, length, slice_index, IsTrue, Result, Ok, Err}
use Rattle.rs_refusal.specs.Counts.{counted_on}
use Rattle.rs_refusal.specs.declared.refusal.Refusal.{Refusal}
use Rattle.rs_refusal.specs.declared.refusal.Refusal.TheVariants.{OutOfMemory, Disk, DamagedFile}
use Rattle.rs_disk.specs.Calls.{Calls}
use Rattle.rs_disk.specs.Content.{Content}
use Rattle.rs_disk.specs.Crash.{Same}
use Rattle.rs_disk.specs.Reaches.{Reaches}
use Rattle.rs_disk.specs.declared.disk.Disk as disk
use Rattle.rs_page.specs.declared.page.TheConstants.{PAGE_SIZE}
use Rattle.rs_journal.specs.declared.limits.TheConstants.{GATE, OPEN, FIELDS_END, FORMAT, FORMAT_BYTE, FLAG, FIRST_FORMAT, LAST_FORMAT}
use Rattle.rs_journal.specs.FilePages.{FilePages, HasPages, word_at}
use Rattle.rs_journal.specs.Journal.{Ascends, Recovers, IsTold, copies_start}
use Rattle.rs_journal.specs.Recovery.{IsDamaged, OnDamaged, journal_in}

-- the gate is open
abbrev pub is_open : Content → Bool
is_open content = content.byte GATE == OPEN

-- a closed file of version 1: its gate is not open, its format is 1 and its open flag 0
abbrev pub is_first_version : Content → Bool
is_first_version content =
    not (is_open content) && (word_at content.byte FORMAT == FIRST_FORMAT && content.byte FLAG == 0)

-- how many pages the journal copies: none where the gate isn't open
abbrev pub copies_in : Content → ℕ
copies_in content = if is_open content then (journal_in content).count else 0

-- the byte at an offset, with the first so many copies in place of the pages that they copy
abbrev pub copied_byte : (ℕ → ℕ) → (ℕ → ℕ → ℕ) → (ℕ → ℕ) → ℕ → ℕ → ℕ
copied_byte number copy byte zero i = byte i
copied_byte number copy byte (suc n) i =
    if (i / PAGE_SIZE == number n) then copy n (i % PAGE_SIZE) else copied_byte number copy byte n i

-- these are the bytes from an offset on
pub record GivesBytes (byte : ℕ → ℕ) (at : ℕ) (bytes : List ℕ) : Type 0 where
  pub each : (k : ℕ) → k < length bytes → slice_index bytes k ≡ byte (at + k)

-- the byte at an offset, with format 2 in place of 1 where it is raised
abbrev pub formatted_byte : Bool → (ℕ → ℕ) → ℕ → ℕ
formatted_byte raised byte i = if (raised && i == FORMAT_BYTE) then LAST_FORMAT else byte i

-- the byte at an offset with zeros for the gate and the journal's fields
abbrev pub masked_byte : (ℕ → ℕ) → ℕ → ℕ
masked_byte byte i = if (nat_le GATE i && nat_lt i FIELDS_END) then 0 else byte i

-- the byte that a look shows at an offset
abbrev pub shown_byte : Content → ℕ → ℕ
shown_byte content = masked_byte (formatted_byte (is_first_version content)
    (copied_byte (journal_in content).number (journal_in content).copy content.byte (copies_in content)))

-- what a look shows of a content
abbrev pub shown : Content → Content
shown content = record {
  size = content.size;
  byte = λ i. if nat_lt i content.size then shown_byte content i else 0;
}

-- these pages, in this format where theirs is another
abbrev pub in_format : Bool → ℕ → FilePages → FilePages
in_format false format pages = pages
in_format true format pages = record {
  count = pages.count;
  byte = λ i. if i == FORMAT_BYTE then format else pages.byte i;
}

-- the pages that a look shows of those that stand after recovery: of a closed file of version 1 they are of version 2
abbrev pub as_shown : Content → FilePages → FilePages
as_shown content = in_format (is_first_version content) LAST_FORMAT

-- the pages that stand after recovery, of those that a look shows
abbrev pub as_kept : Content → FilePages → FilePages
as_kept content = in_format (is_first_version content) FIRST_FORMAT

-- what is known of a `Looked`: the disk below, and its own calls so far
pub record LookedAt (D : Type 0) : Type 0 where
  pub disk : D
  pub calls : Calls

-- what is kept in memory is as the content says: the numbers of the pages that are copied, the page of the first copy, and
-- whether format 2 is shown in place of 1
pub record IsLook (numbers : List ℕ) (copies : ℕ) (raised : Bool) (content : Content) : Type 0 where
  pub count : length numbers ≡ copies_in content
  pub each : (k : ℕ) → k < length numbers → slice_index numbers k ≡ (journal_in content).number k
  pub start : 0 < length numbers → copies ≡ copies_start (journal_in content)
  pub ascending : Ascends (length numbers) (slice_index numbers)
  pub inside : (k : ℕ) → k < length numbers → PAGE_SIZE * slice_index numbers k + PAGE_SIZE ≤ content.size
  pub format : raised ≡ is_first_version content

-- a failed call counts once, and want of memory and damaged bytes don't; there is no other refusal
abbrev pub CountsLook : {T : Type 0} → Result T Refusal → ℕ → ℕ → Type 0
CountsLook (Ok _) old new = new ≡ old
CountsLook (Err OutOfMemory) old new = new ≡ old
CountsLook (Err Disk) old new = new ≡ counted_on old
CountsLook (Err DamagedFile) old new = new ≡ old
CountsLook (Err _) old new = ⊥

module _ {D : Type 0} (d : disk.Ghosts D) where
  -- The disk was read alone. A look shows the pages that stand after recovery, and no others, with a closed gate.
  pub record ShowsRecovered (old new : D) : Type 0 where
    pub reads : Reaches d Same old new
    pub failures : d.failures new ≡ d.failures old
    pub told : IsTrue (d.is_honest old) → (d.seen old).byte GATE ≡ OPEN → IsTold (d.seen old)
    pub pages : (pages : FilePages) → IsTrue (d.is_honest old) → Recovers (d.seen old) pages
        → HasPages (as_shown (d.seen old) pages) (shown (d.seen new))
    pub others : (pages : FilePages) → IsTrue (d.is_honest old) → HasPages pages (shown (d.seen new))
        → Recovers (d.seen old) (as_kept (d.seen old) pages)
    pub shut : (shown (d.seen new)).byte GATE ≡ 0

  -- the disk was read alone, and it is handed back; 94 is right
  pub record HandsBack (refusal : Refusal) (old new : D) : Type 0 where
    pub reads : Reaches d Same old new
    pub count : CountsLook {T = Unit {0}} (Err refusal) (d.failures old) (d.failures new)
    pub damaged : IsTrue (d.is_honest old) → OnDamaged {T = Unit {0}} (Err refusal) (IsDamaged (d.seen old))
