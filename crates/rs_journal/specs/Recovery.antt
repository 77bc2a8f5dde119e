-- What recovery reads of a journal, and what it answers.
use Rattle.std.specs.Prelude.{◌≡◌, ◌⊎◌, ℕ, ◌+◌, ◌-◌, ◌*◌, ◌^◌, ◌<◌, ◌≤◌, IsTrue, Result, Ok, Err, IsErr, OnOk, OnErr}
use Rattle.rs_refusal.specs.Counts.{counted_on}
use Rattle.rs_refusal.specs.declared.refusal.Refusal.{Refusal}
use Rattle.rs_refusal.specs.declared.refusal.Refusal.TheVariants.{Disk, DamagedFile}
use Rattle.rs_disk.specs.Content.{Content}
use Rattle.rs_disk.specs.Crash.{Same, Only}
use Rattle.rs_disk.specs.declared.disk.Disk as disk
use Rattle.rs_page.specs.declared.page.TheConstants.{PAGE_SIZE}
use Rattle.rs_journal.specs.declared.limits.TheConstants.{GATE, FIELDS, PAGE_COUNT}
use Rattle.rs_journal.specs.FilePages.{FilePages, HasPages, word_at}
use Rattle.rs_journal.specs.Journal.{Journal, Ascends, AreBelow, end_page, number_pages, Tells, Recovers}
use Rattle.rs_journal.specs.Stages.{IsQuiet, IsLeftAlone, HasHome, EveryImage, Meanwhile, Goes}
use Rattle.rs_disk.specs.Reaches.{KeepsWhere, Reaches}

-- the number at a place of a journal from this page on
abbrev pub number_in : Content → ℕ → ℕ → ℕ
number_in content first k = word_at content.byte (PAGE_SIZE * first + 4 * k)

-- the byte of a copy of a journal of so many copies from this page on
abbrev pub copy_in : Content → ℕ → ℕ → ℕ → ℕ → ℕ
copy_in content first count k j = content.byte (PAGE_SIZE * (first + number_pages count + k) + j)

-- the journal that the bytes of page 0 name
abbrev pub journal_in : Content → Journal
journal_in content = record {
  first = word_at content.byte FIELDS;
  count = word_at content.byte (FIELDS + 4);
  number = number_in content (word_at content.byte FIELDS);
  copy = copy_in content (word_at content.byte FIELDS) (word_at content.byte (FIELDS + 4));
}

-- page 0 and all pages of a journal lie in the file, among those that a disk counts
pub record IsInside (first count : ℕ) (content : Content) : Type 0 where
  pub first_page : PAGE_SIZE ≤ content.size
  pub pages : 0 < count → PAGE_SIZE * end_page first count ≤ content.size
  pub counted : end_page first count < 2 ^ 32

-- the journal is there, and begins and counts as page 0 says
pub record IsThere (first count : ℕ) (journal : Journal) (content : Content) : Type 0 where
  pub tells : Tells content journal
  pub first_page : journal.first ≡ first
  pub copies : journal.count ≡ count

-- page 0 says how many pages these are
pub record SaysCount (pages : FilePages) : Type 0 where
  pub says : word_at pages.byte PAGE_COUNT ≡ pages.count
  pub some : 0 < pages.count

-- the copies are in their home pages, and all else stays
pub record Brought (journal : Journal) (old new : Content) : Type 0 where
  pub home : HasHome journal.count journal.number journal.copy new
  pub others : KeepsWhere (IsLeftAlone journal.count journal.number) old new
  pub no_longer : new.size ≤ old.size

-- what is there after recovery was given before it
abbrev pub GaveAll : Content → Content → Type 0
GaveAll old new = (pages : FilePages) → SaysCount pages → HasPages pages new → Recovers old pages

-- the first so many numbers ascend and lie below this page, and the next is to be no less than `least`
pub record NumbersSoFar (first place least : ℕ) (number : ℕ → ℕ) : Type 0 where
  pub ascending : Ascends place number
  pub below : AreBelow first place number
  pub under : (k : ℕ) → k < place → number k < least
  pub last : 0 < place → least ≡ number (place - 1) + 1
  pub first_least : place ≡ 0 → least ≡ 0

-- a refusal by a failed call counts once, one by damaged bytes does not, and there is no other
abbrev pub CountsFaults : {T : Type 0} → Result T Refusal → ℕ → ℕ → Type 0
CountsFaults (Ok _) old new = new ≡ old
CountsFaults (Err Disk) old new = new ≡ counted_on old
CountsFaults (Err DamagedFile) old new = new ≡ old
CountsFaults (Err _) old new = ⊥

-- the file is no longer than the pages that page 0 counts
abbrev pub HasNoMore : Content → Type 0
HasNoMore content = content.size ≤ PAGE_SIZE * word_at content.byte PAGE_COUNT

-- the gate is open, and no well-formed journal is there in a file that has a page 0; so it gives no pages
pub record IsDamaged (content : Content) : Type 0 where
  pub opened : content.byte GATE ≡ 1
  pub no_journal : (journal : Journal) → Tells content journal → PAGE_SIZE ≤ content.size → ⊥
  pub no_pages : (pages : FilePages) → SaysCount pages → Recovers content pages → ⊥

-- a refusal by damaged bytes is right
abbrev pub OnDamaged : {T : Type 0} → Result T Refusal → Type 0 → Type 0
OnDamaged (Err DamagedFile) claim = claim
OnDamaged _ claim = Unit {0}

module _ {D : Type 0} (d : disk.Ghosts D) where
  -- whether the disk is honest and whether it keeps the model of crashes stays; a refusal is 91 and one more failure, or 94
  pub record CallsOrDamaged {T : Type 0} (result : Result T Refusal) (old new : D) : Type 0 where
    pub honesty : d.is_honest new ≡ d.is_honest old
    pub keeping : d.keeps_crashes new ≡ d.keeps_crashes old
    pub count : CountsFaults result (d.failures old) (d.failures new)

  -- the first sync of recovery fails, and there is no other call
  pub record NotSynced {T E : Type 0} (result : Result T E) (old new : D) : Type 0 where
    pub failed : IsErr result
    pub before : Reaches d Same old new

  -- The first sync of recovery succeeds, and leaves a disk of which a crash leaves what a read gives. From there on each
  -- image gives the pages.
  pub record FromSync {T E : Type 0} (pages : FilePages) (result : Result T E) (old new : D) : Type 0 where
    pub synced : D
    pub before : Reaches d Same old synced
    pub durable : IsTrue (d.keeps_crashes old) → Only (d.seen synced) (d.may_leave synced)
    pub goes : Goes d (λ image. Recovers image pages) (IsQuiet pages) result synced new

  -- what recovery leaves of a disk that gives these pages: after Ok they are the ones kept; after a fault a read gives
  -- them still, and so does each image that a crash may leave, or it is among those of the start
  pub record Recovered {T E : Type 0} (pages : FilePages) (result : Result T E) (old new : D) : Type 0 where
    pub done : OnOk result (EveryImage d (IsQuiet pages) new)
    pub reads : Recovers (d.seen new) pages
    pub images : IsTrue (d.keeps_crashes old) → OnErr result
        (((image : Content) → d.may_leave new image → Recovers image pages)
        ⊎ ((image : Content) → d.may_leave new image → d.may_leave old image))
    pub meanwhile : Meanwhile d (λ image. Recovers image pages ⊎ d.may_leave old image) old new
    pub from_sync : NotSynced result old new ⊎ FromSync pages result old new
