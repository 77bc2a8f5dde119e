-- The stages of a checkpoint, by what a crash may leave in each.
use Rattle.std.specs.Prelude.{◌≡◌, ◌≢◌, ◌⊎◌, ℕ, ◌+◌, ◌*◌, ◌<◌, ◌≤◌, max, List, slice_index, IsTrue, Result, OnOk, OnErr}
use Rattle.rs_disk.specs.Content.{Content}
use Rattle.rs_disk.specs.declared.disk.Disk as disk
use Rattle.rs_page.specs.declared.page.TheConstants.{PAGE_SIZE}
use Rattle.rs_journal.specs.declared.stage.Stage.{Stage}
use Rattle.rs_journal.specs.declared.stage.Stage.TheVariants.{Fresh, Gate, Home, Closing}
use Rattle.rs_journal.specs.declared.limits.TheConstants.{GATE, GATE_END, FIELDS, FIELDS_END}
use Rattle.rs_journal.specs.FilePages.{FilePages, IsOfPages, HasPages}
use Rattle.rs_journal.specs.Journal.{Journal, HasJournal, IsApart, IsNotCopied, Recovers}
use Rattle.rs_disk.specs.Reaches.{KeepsWhere, Through, IsOutside}

-- no checkpoint is under way: the gate is closed, and these are the pages
pub record IsQuiet (pages : FilePages) (image : Content) : Type 0 where
  pub closed : image.byte GATE ≢ 1
  pub pages_there : HasPages pages image

-- the gate may be open or not: the pages kept last are there, and all of the journal
pub record IsGate (kept : FilePages) (journal : Journal) (image : Content) : Type 0 where
  pub pages_there : HasPages kept image
  pub journal_there : HasJournal journal image

-- the gate is open, the journal is there, and the pages that it doesn't copy are the checkpoint's
pub record IsHome (journal : Journal) (checkpoint : FilePages) (image : Content) : Type 0 where
  pub opened : image.byte GATE ≡ 1
  pub journal_there : HasJournal journal image
  pub others : (i : ℕ) → i < PAGE_SIZE * checkpoint.count → IsOfPages i → IsNotCopied journal i
      → image.byte i ≡ checkpoint.byte i
  pub size : PAGE_SIZE * checkpoint.count ≤ image.size

-- the gate may be open or not: the checkpoint's pages are there, and all of the journal
pub record IsClosing (journal : Journal) (checkpoint : FilePages) (image : Content) : Type 0 where
  pub pages_there : HasPages checkpoint image
  pub journal_there : HasJournal journal image

-- all but the gate byte stays, and the content grows to its end at most
pub record GateAlone (old new : Content) : Type 0 where
  pub others : KeepsWhere (IsOutside GATE GATE_END) old new
  pub no_longer : new.size ≤ max old.size GATE_END

-- Which bytes the stages leave alone.

-- writing a journal from this page on: all before it but the journal's fields
abbrev pub IsBeforeJournal : ℕ → ℕ → Type 0
IsBeforeJournal first i = (i < PAGE_SIZE * first) × IsOutside FIELDS FIELDS_END i

-- writing one home page: all outside it, and the gate and the journal's fields
abbrev pub IsNotInPage : ℕ → ℕ → Type 0
IsNotInPage number i =
    IsOutside (PAGE_SIZE * number) (PAGE_SIZE * number + PAGE_SIZE) i ⊎ ((GATE ≤ i) × (i < FIELDS_END))

-- bringing the copies home: the pages that aren't copied, and the gate and the journal's fields
abbrev pub IsLeftAlone : ℕ → (ℕ → ℕ) → ℕ → Type 0
IsLeftAlone count number i = IsApart count number i ⊎ ((GATE ≤ i) × (i < FIELDS_END))

-- What is there once it is written.

-- one home page, by its bytes
pub record HasHomeBytes (number : ℕ) (byte : ℕ → ℕ) (content : Content) : Type 0 where
  pub each : (j : ℕ) → j < PAGE_SIZE → IsOfPages (PAGE_SIZE * number + j)
      → content.byte (PAGE_SIZE * number + j) ≡ byte j
  pub inside : PAGE_SIZE * number + PAGE_SIZE ≤ content.size

-- one home page
abbrev pub HasHomePage : ℕ → List ℕ → Content → Type 0
HasHomePage number page = HasHomeBytes number (λ j. slice_index page j)

-- the first so many copies in their home pages
pub record HasHome (count : ℕ) (number : ℕ → ℕ) (copy : ℕ → ℕ → ℕ) (content : Content) : Type 0 where
  pub each : (k j : ℕ) → k < count → j < PAGE_SIZE → IsOfPages (PAGE_SIZE * number k + j)
      → content.byte (PAGE_SIZE * number k + j) ≡ copy k j
  pub inside : (k : ℕ) → k < count → PAGE_SIZE * number k + PAGE_SIZE ≤ content.size

-- what a crash may leave of a checkpoint in each stage, from the pages kept last to its own
abbrev pub StageImage : Stage → FilePages → Journal → FilePages → Content → Type 0
StageImage Fresh kept journal checkpoint = IsQuiet kept
StageImage Gate kept journal checkpoint = IsGate kept journal
StageImage Home kept journal checkpoint = IsHome journal checkpoint
StageImage Closing kept journal checkpoint = IsClosing journal checkpoint

-- the image has the pages kept last, with a closed gate, or gives the checkpoint's
abbrev pub IsEither : FilePages → FilePages → Content → Type 0
IsEither kept checkpoint image = IsQuiet kept image ⊎ Recovers image checkpoint

-- what a crash leaves from a stage on gives these pages: once the gate is known to be open the checkpoint's
abbrev pub GivesFrom : Stage → FilePages → FilePages → Content → Type 0
GivesFrom Fresh kept checkpoint image = IsEither kept checkpoint image
GivesFrom Gate kept checkpoint image = IsEither kept checkpoint image
GivesFrom Home kept checkpoint image = Recovers image checkpoint
GivesFrom Closing kept checkpoint image = Recovers image checkpoint

module _ {D : Type 0} (d : disk.Ghosts D) where
  -- the disk is honest, this holds of what a read gives, and where the disk keeps the model of crashes of each image that
  -- a crash may leave
  pub record EveryImage (is_left : Content → Type 0) (disk : D) : Type 0 where
    pub honest : IsTrue (d.is_honest disk)
    pub reads : is_left (d.seen disk)
    pub images : IsTrue (d.keeps_crashes disk) → (image : Content) → d.may_leave disk image → is_left image

  -- meanwhile a crash leaves images of which this holds
  abbrev pub Meanwhile : (Content → Type 0) → D → D → Type 0
  Meanwhile is_left old new = IsTrue (d.keeps_crashes old) → Through d is_left old new

  -- One stage: it ends as the next begins, or after a fault as it began itself, and meanwhile a crash leaves an image as
  -- at its beginning.
  pub record Goes {T E : Type 0} (from to : Content → Type 0) (result : Result T E) (old new : D) : Type 0 where
    pub done : OnOk result (EveryImage to new)
    pub fault : OnErr result (EveryImage from new)
    pub meanwhile : Meanwhile from old new

  -- Stages up to the last: after Ok the checkpoint's pages are the ones kept and the stage is the first, after a fault it
  -- is the one that was reached. A crash meanwhile leaves an image that gives these pages.
  pub record EndsOrStops {T E : Type 0} (kept : FilePages) (journal : Journal) (checkpoint : FilePages) (gives : Content → Type 0)
      (result : Result T E) (stage : Stage) (old new : D) : Type 0 where
    pub done : OnOk result ((stage ≡ Fresh) × EveryImage (IsQuiet checkpoint) new)
    pub reached : OnErr result (EveryImage (StageImage stage kept journal checkpoint) new)
    pub meanwhile : Meanwhile gives old new

  -- this holds still, and meanwhile a crash leaves an image of which it holds
  pub record Remains (is_left : Content → Type 0) (old new : D) : Type 0 where
    pub every : EveryImage is_left new
    pub meanwhile : Meanwhile is_left old new
