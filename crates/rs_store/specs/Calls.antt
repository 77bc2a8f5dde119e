-- What the calls of a store do, and why they are refused.
use Rattle.std.specs.Prelude.{◌≡◌, ◌≢◌, ◌≤◌, ◌⊎◌, ℕ, false, Err, IfErr, IfOk, IsTrue, MatchResult, OnErr, OnOk, Result}
use Rattle.rs_disk.specs.Content.{Content}
use Rattle.rs_disk.specs.Crash.{Same}
use Rattle.rs_disk.specs.Reaches.{Reaches}
use Rattle.rs_disk.specs.declared.disk.Disk as disk
use Rattle.rs_file.specs.Contents.{Contents, SameContents}
use Rattle.rs_machine.specs.State.{State, fresh}
use Rattle.rs_page.specs.declared.file_header.TheConstants.{FLAG_OFFSET}
use Rattle.rs_journal.specs.FilePages.{FilePages}
use Rattle.rs_journal.specs.Journal.{Recovers}
use Rattle.rs_journal.specs.Recovery.{Recovered}
use Rattle.rs_journal.specs.declared.limits.TheConstants.{GATE, OPEN}
use Rattle.rs_pager.specs.Lasts.{KeepsMap}
use Rattle.rs_pager.specs.Maps.{ArePages, IsTied, KeepsBelow, committed, working}
use Rattle.rs_pager.specs.Opened.{CountsFault}
use Rattle.rs_pager.specs.Paged.{Paged}
use Rattle.rs_pager.specs.Versions.{IsNoFile, StoresFirst}
use Rattle.rs_pages.specs.PageMap.{PageMap, SamePages}
use Rattle.rs_refusal.specs.declared.refusal.Refusal.{Refusal}
use Rattle.rs_refusal.specs.declared.refusal.Refusal.TheVariants as refusal
use Rattle.rs_store.specs.Standing.{IsFileOf, IsSecondFileOf, Stands}
use Rattle.rs_store.specs.Changing.{StillHolds}
use Rattle.rs_store.specs.Kept.{Keeps, StandsIn, StoreState}
use Rattle.rs_store.specs.Lasting.{Endures, IsLast, LeavesOneOf, StaysFileOf}

-- ---- disks

-- the disk is a file of version 1 of some state, and was not closed
pub record IsLeftOpen (limit : ℕ) (content : Content) : Type 0 where
  pub state : State
  pub file : IsFileOf limit content state
  pub first : StoresFirst content file.pages
  pub not_closed : content.byte FLAG_OFFSET ≢ 0

-- it is one of version 1 that was closed
pub record IsClosedFirst (limit : ℕ) (content : Content) : Type 0 where
  pub state : State
  pub file : IsFileOf limit content state
  pub first : StoresFirst content file.pages
  pub closed : content.byte FLAG_OFFSET ≡ 0

-- it is a file of no state, closed or not
pub record IsNoFileOfAny (limit : ℕ) (content : Content) : Type 0 where
  pub none : (state : State) → IsFileOf limit content state → ⊥

-- ---- refusals

-- why a file is not opened
abbrev pub WantsOpening : Refusal → Type 0
WantsOpening why = (why ≡ refusal.OutOfMemory) ⊎ (why ≡ refusal.Disk) ⊎ (why ≡ refusal.DamagedFile) ⊎ (why ≡ refusal.FileNotClosed)

-- and why none is made
abbrev pub WantsCreating : Refusal → Type 0
WantsCreating why = (why ≡ refusal.OutOfMemory) ⊎ (why ≡ refusal.Disk) ⊎ (why ≡ refusal.FileFull) ⊎ (why ≡ refusal.DamagedFile)

module _ {D : Type 0} (d : disk.Ghosts D) where
  -- both maps of pages stay, the limit and what is begun, and the disk is only read
  pub record LeavesDisk (old new : Paged D) : Type 0 where
    pub tied : IsTied d old → IsTied d new
    pub committed : IsTied d old → SamePages (committed d new) (committed d old)
    pub working : IsTied d old → SamePages (working d new) (working d old)
    pub honesty : d.is_honest new.disk ≡ d.is_honest old.disk
    pub limit : new.limit ≡ old.limit
    pub begun : new.is_begun ≡ old.is_begun
    pub seen : IsTrue (d.is_honest old.disk) → d.seen new.disk ≡ d.seen old.disk
    pub below : KeepsBelow d old new

  -- Both maps of pages stay, the limit and what is begun; the committed pages are the ones kept last, if the disk had them all or not.
  pub record OpensPages (old new : Paged D) : Type 0 where
    pub kept : IsTied d old → (old.is_header_changed ≡ false → KeepsMap d old (committed d old)) → KeepsMap d new (committed d old)
    pub tied : IsTied d old → IsTied d new
    pub committed : IsTied d old → SamePages (committed d new) (committed d old)
    pub working : IsTied d old → SamePages (working d new) (working d old)
    pub limit : new.limit ≡ old.limit
    pub begun : new.is_begun ≡ old.is_begun

  -- ---- a store that comes to be

  -- Whatever the disk is, it is lent to the store or handed back, and keeps the model of crashes where it did. 91 comes exactly where its
  -- failures rose, by one.
  pub record HandsOver (most : ℕ) (old : D) (result : Result (StoreState D) (D × Refusal)) : Type 0 where
    pub honesty : MatchResult result (λ store. d.is_honest store.pager.disk ≡ d.is_honest old) (λ refused. d.is_honest refused.0 ≡ d.is_honest old)
    pub count : MatchResult result (λ store. d.failures store.pager.disk ≡ d.failures old) (λ refused. CountsFault refused.1 (d.failures old) (d.failures refused.0))
    pub limit : IfOk result (λ store. store.pager.limit ≡ most)
    pub keeping : MatchResult result (λ store. d.keeps_crashes store.pager.disk ≡ d.keeps_crashes old) (λ refused. d.keeps_crashes refused.0 ≡ d.keeps_crashes old)

  -- the disk stood for a state, in which the store stands, and which is kept last; its versions begin with the one that was accepted last
  pub record OpensState (limit : ℕ) (content : Content) (store : StoreState D) : Type 0 where
    pub state : State
    pub stood : Stands limit content state
    pub stands : StandsIn d store.file.accepted store state
    pub last : IsLast d store.pager state

  -- What an honest disk is opened as. One of version 2 is recovered, whatever is answered.
  pub record Opens (limit : ℕ) (old : D) (result : Result (StoreState D) (D × Refusal)) : Type 0 where
    pub opens : IfOk result (OpensState limit (d.seen old))
    pub damaged : IfErr result (λ refused. refused.1 ≡ refusal.DamagedFile → IsNoFileOfAny limit (d.seen old))
    pub left_open : IfErr result (λ refused. refused.1 ≡ refusal.FileNotClosed → IsLeftOpen limit (d.seen old))
    pub recovers : (map : PageMap) (pages : FilePages) → ArePages map pages → Recovers (d.seen old) pages
        → MatchResult result (λ store. Recovered d pages result old store.pager.disk) (λ refused. Recovered d pages result old refused.0)

  -- What opening leaves of a disk, whatever it answers. A file that stood for a state stands for it still. Where the gate was not open
  -- nothing is written, but to a closed file of version 1; and nothing to what is no file of any pages, unless a call failed.
  pub record PreservesFile (limit : ℕ) (old : D) (result : Result (StoreState D) (D × Refusal)) : Type 0 where
    pub stays : (state : State) → Stands limit (d.seen old) state
        → MatchResult result (λ store. StaysFileOf d limit state old store.pager.disk) (λ refused. StaysFileOf d limit state old refused.0)
    pub shut : (d.seen old).byte GATE ≢ OPEN → (IsClosedFirst limit (d.seen old) → ⊥)
        → MatchResult result (λ store. Reaches d Same old store.pager.disk) (λ refused. Reaches d Same old refused.0)
    pub no_file : IsNoFile (d.seen old) limit → IfErr result (λ refused. refused.1 ≢ refusal.Disk → Reaches d Same old refused.0)

  -- What is made of an honest disk: a store that stands in the state at the beginning, which is kept last. It isn't found damaged.
  pub record Creates (result : Result (StoreState D) (D × Refusal)) : Type 0 where
    pub last : IfOk result (λ store. IsLast d store.pager fresh)
    pub fresh : IfOk result (λ store. StandsIn d 0 store fresh)
    pub sound : IfErr result (λ refused. refused.1 ≢ refusal.DamagedFile)

  -- ---- a store in use

  -- whatever the store keeps it still keeps, the same is open and in memory, and so are the limit and the count of full refusals; what
  -- lasts, lasts
  pub record KeepsStore (old new : StoreState D) : Type 0 where
    pub contents : (contents : Contents) → Keeps d old contents → Keeps d new contents
    pub file : new.file ≡ old.file
    pub catalog : new.catalog ≡ old.catalog
    pub referents : new.referents ≡ old.referents
    pub honesty : d.is_honest new.pager.disk ≡ d.is_honest old.pager.disk
    pub limit : new.pager.limit ≡ old.pager.limit
    pub full : new.pager.full_refusals ≡ old.pager.full_refusals
    pub endures : Endures d old.pager new.pager

  -- The disk stands for the state in which the store stands, and which is kept last: so does each image that a crash may leave. It is a
  -- file of version 2 with a closed gate.
  pub record Saves {E : Type 0} (result : Result (Unit {0}) E) (old new : StoreState D) : Type 0 where
    pub stands : (oldest : ℕ) (state : State) → StandsIn d oldest old state → OnOk result (Stands new.pager.limit (d.seen new.pager.disk) state)
    pub second : (oldest : ℕ) (state : State) → StandsIn d oldest old state → OnOk result (IsSecondFileOf new.pager.limit (d.seen new.pager.disk) state)
    pub last : (oldest : ℕ) (state : State) → StandsIn d oldest old state → OnOk result (IsLast d new.pager state)
    pub durable : (oldest : ℕ) (state : State) → StandsIn d oldest old state → OnOk result (IsTrue (d.keeps_crashes new.pager.disk)
        → (image : Content) → d.may_leave new.pager.disk image → Stands new.pager.limit image state)

  -- the same contents are kept, in the same pages
  pub record KeepsSame (contents : Contents) (store : StoreState D) : Type 0 where
    pub now : Contents
    pub keeps : Keeps d store now
    pub same : SameContents contents now

  -- What is read anew is what the store kept, and it stands in the same state. After a refusal it keeps what it kept, and whatever the
  -- disk is, the same is open and in memory, and the held changes are as they were or written. A store that stands in a state isn't found
  -- damaged.
  pub record Reopens (result : Result (Unit {0}) Refusal) (old new : StoreState D) : Type 0 where
    pub same : (contents : Contents) → Keeps d old contents → OnOk result (KeepsSame contents new)
    pub state : (oldest : ℕ) (state : State) → StandsIn d oldest old state → OnOk result (StandsIn d oldest new state)
    pub stays : (contents : Contents) → Keeps d old contents → OnErr result (Keeps d new contents)
    pub file : OnErr result (new.file ≡ old.file)
    pub catalog : OnErr result (new.catalog ≡ old.catalog)
    pub referents : OnErr result (new.referents ≡ old.referents)
    pub changes : OnErr result (StillHolds d old.pager new.pager)
    pub sound : (oldest : ℕ) (state : State) → StandsIn d oldest old state → result ≢ Err refusal.DamagedFile
    pub honesty : d.is_honest new.pager.disk ≡ d.is_honest old.pager.disk
    pub limit : new.pager.limit ≡ old.pager.limit
    pub full : new.pager.full_refusals ≡ old.pager.full_refusals
    pub endures : Endures d old.pager new.pager

  -- ---- a store that is put away

  -- The disk stands for the state in which the store stood, as a file of version 2 with a closed gate, and so does each image that a crash
  -- may leave; meanwhile a crash left one that stands for the state kept last or for this one. A store that is handed back keeps what it kept.
  pub record Closes (old : StoreState D) (result : Result D (StoreState D × Refusal)) : Type 0 where
    pub stands : (oldest : ℕ) (state : State) → StandsIn d oldest old state → IfOk result (λ disk. Stands old.pager.limit (d.seen disk) state)
    pub second : (oldest : ℕ) (state : State) → StandsIn d oldest old state → IfOk result (λ disk. IsSecondFileOf old.pager.limit (d.seen disk) state)
    pub durable : (oldest : ℕ) (state : State) → StandsIn d oldest old state → IfOk result (λ disk. IsTrue (d.keeps_crashes disk)
        → (image : Content) → d.may_leave disk image → Stands old.pager.limit image state)
    pub meanwhile : (oldest : ℕ) (state last : State) → StandsIn d oldest old state → IsLast d old.pager last → IsTrue (d.keeps_crashes old.pager.disk)
        → old.pager.committed_fields.pages ≤ old.pager.limit
        → IfOk result (λ disk. LeavesOneOf d old.pager.limit last state old.pager.disk disk)
    pub keeping : IfOk result (λ disk. d.keeps_crashes disk ≡ d.keeps_crashes old.pager.disk)
    pub honesty : IfOk result (λ disk. d.is_honest disk ≡ d.is_honest old.pager.disk)
    pub keeps : IfErr result (λ refused. KeepsStore old refused.0)

  -- a disk that is not closed is refused with 90, or with 91, where its failures rose, by one
  pub record CountsClosing (old : StoreState D) (result : Result D (StoreState D × Refusal)) : Type 0 where
    pub refused : IfErr result (λ refused. (refused.1 ≡ refusal.OutOfMemory) ⊎ (refused.1 ≡ refusal.Disk))
    pub count : MatchResult result (λ disk. d.failures disk ≡ d.failures old.pager.disk) (λ refused. CountsFault refused.1 (d.failures old.pager.disk) (d.failures refused.0.pager.disk))
