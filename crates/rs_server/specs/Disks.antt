-- What comes of a file on a disk: it is made, or opened, served and closed.
use Rattle.std.specs.Prelude.{◌≡◌, ◌≢◌, ◌⊎◌, ℕ, List, Option, Some, None, Result, Ok, Err, IfSome, IsTrue}
use Rattle.std.specs.Borrow.{Bor}
use Rattle.std.specs.Io.KnownBytes.{Consumes, Keeps}
use Rattle.rs_disk.specs.Content.{Content}
use Rattle.rs_disk.specs.declared.disk.Disk as disk
use Rattle.rs_journal.specs.FilePages.{FilePages}
use Rattle.rs_journal.specs.Journal.{Recovers}
use Rattle.rs_journal.specs.Recovery.{Recovered}
use Rattle.rs_machine.specs.Served.{Machine}
use Rattle.rs_machine.specs.State.{State, fresh}
use Rattle.rs_machine.specs.Step.{without_cursors}
use Rattle.rs_pager.specs.Maps.{ArePages}
use Rattle.rs_pager.specs.Opened.{CountsFault}
use Rattle.rs_pages.specs.PageMap.{PageMap}
use Rattle.rs_protocol.specs.Ends.{Ends}
use Rattle.rs_protocol.specs.declared.stream.End.{End}
use Rattle.rs_protocol.specs.declared.stream.Fault.{Fault}
use Rattle.rs_refusal.specs.declared.refusal.Refusal.{Refusal}
use Rattle.rs_refusal.specs.declared.refusal.Refusal.TheVariants as refusal
use Rattle.rs_server.specs.Connections.{ServesAddress}
use Rattle.rs_server.specs.declared.report.Failure.{Failure}
use Rattle.rs_server.specs.declared.report.Failure.TheVariants.{Refused, Stream}
use Rattle.rs_engine.specs.Crashes.{Call, GoThrough, IsOfAFront}
use Rattle.rs_engine.specs.Standing.{IsSecondFileOf, Stands}
use Rattle.rs_engine.specs.Calls.{IsLeftOpen, IsNoFileOfAny, PreservesFile, WantsCreating, WantsOpening}

-- ---- failures

-- the disk that was closed or handed back, where it was
abbrev pub disk_of : {D : Type 0} → Result D (Option D × Failure) → Option D
disk_of (Ok disk) = Some disk
disk_of (Err failed) = failed.0

-- the failure that is told, where there was one
abbrev pub told_of : {T F : Type 0} → Result T (F × Failure) → Option Failure
told_of (Ok done) = None
told_of (Err failed) = Some failed.1

-- the failure of a service
abbrev pub failure_of : Result End Fault → Option Failure
failure_of (Ok end) = None
failure_of (Err fault) = Some (Stream fault)

-- The first failure is told: one that came before the file was closed, or else why it was not closed, which is want of memory or of the
-- disk.
abbrev pub TellsFirst : {D : Type 0} → Option Failure → Option D → Option Failure → Type 0
TellsFirst (Some failure) closed told = told ≡ Some failure
TellsFirst None (Some disk) told = told ≡ None
TellsFirst None None told = (told ≡ Some (Refused refusal.OutOfMemory)) ⊎ (told ≡ Some (Refused refusal.Disk))

-- ---- services

-- What the input told was served on the output by a machine, which was the first one at the beginning and the last one at the end.
pub record ServesInput (outcome : Result End Fault) (first last : Machine) (unread unread_now before after : Option (List ℕ)) : Type 0 where
  pub told : List ℕ
  pub consumed : Consumes unread unread_now told
  pub ended : Ends outcome told unread_now first last before after

module _ {D : Type 0} (d : disk.Ghosts D) where
  -- the disk stands for the state, as a file of version 2 with a closed gate, and so does each image that a crash may leave
  pub record IsClosedAs (limit : ℕ) (state : State) (disk : D) : Type 0 where
    pub stands : Stands limit (d.seen disk) state
    pub second : IsSecondFileOf limit (d.seen disk) state
    pub durable : IsTrue (d.keeps_crashes disk) → (image : Content) → d.may_leave disk image → Stands limit image state

  -- No call of the disk failed in a close that was accepted, from this count of failures on. Why one was refused is told where nothing
  -- failed before: it is 91 only where the count rose.
  abbrev pub CountsClose : ℕ → Option Failure → Option D → Option Failure → Type 0
  CountsClose count before (Some disk) told = d.failures disk ≡ count
  CountsClose count before None told = (disk : D) × (why : Refusal) × CountsFault why count (d.failures disk) × (before ≡ None → told ≡ Some (Refused why))

  -- a file of a machine was closed, as that machine's state without its cursors; or it was not, and the first failure is told
  pub record Closes (limit : ℕ) (machine : Machine) (before : Option Failure) (result : Result D (Option D × Failure)) : Type 0 where
    pub closed : IfSome (disk_of result) (IsClosedAs limit (without_cursors machine.state))
    pub told : TellsFirst before (disk_of result) (told_of result)
    pub count : CountsClose machine.failures before (disk_of result) (told_of result)

  -- What a service and the closing after it leave of a crash. Each image that a crash might have left by the end was left before, or stands
  -- for the state that was kept at first, or for the one after a front of these calls.
  abbrev pub LeavesFrontOf : ℕ → List Call → Machine → State → D → Result D (Option D × Failure) → Type 0
  LeavesFrontOf limit calls first kept old result = IfSome (disk_of result) (λ closed. (start : D) (image : Content) → d.left_since start closed image
      → d.left_since start old image ⊎ ((state : State) × IsOfAFront calls first kept state × Stands limit image state))

  -- The same from an opening on: or it might have been left at first.
  abbrev pub LeavesFrontSince : ℕ → List Call → Machine → D → Result D (Option D × Failure) → Type 0
  LeavesFrontSince limit calls first old result = IfSome (disk_of result) (λ closed. (start : D) (image : Content) → d.left_since start closed image
      → d.left_since start old image ⊎ (d.may_leave old image ⊎ ((state : State) × IsOfAFront calls first first.state state × Stands limit image state)))

  -- The input was served by this machine, and then the file was closed, over a disk as it was, where a state was kept last. Some calls lead
  -- from the first machine to the last, and a crash by the end leaves the state after a front of them.
  pub record ServesAndCloses (limit : ℕ) (first : Machine) (kept : State) (old : D) (result : Result D (Option D × Failure)) (unread unread_now before after : Option (List ℕ)) : Type 0 where
    pub outcome : Result End Fault
    pub last : Machine
    pub served : ServesInput outcome first last unread unread_now before after
    pub closes : Closes limit last (failure_of outcome) result
    pub calls : List Call
    pub goes : GoThrough calls first last
    pub crashes : IsTrue (d.keeps_crashes old) → LeavesFrontOf limit calls first kept old result

  -- The disk stood for a state, from which on it was served, with the disk's count of failures and none of full refusals. Each image that
  -- a crash might have left by the end was left before, or stands for the state after a front of calls that lead from the first machine to
  -- the last.
  pub record ServesState (limit : ℕ) (old : D) (result : Result D (Option D × Failure)) (unread unread_now before after : Option (List ℕ)) : Type 0 where
    pub first : Machine
    pub stood : Stands limit (d.seen old) first.state
    pub failures : first.failures ≡ d.failures old
    pub full : first.full_refusals ≡ 0
    pub opened : D
    pub serves : ServesAndCloses limit first first.state opened result unread unread_now before after
    pub crashes : IsTrue (d.keeps_crashes old) → LeavesFrontSince limit serves.calls first old result

  -- The disk was not opened, and is handed back: it is a file of no state, or one of version 1 that was not closed, or memory or the disk
  -- gave out: 91 counts one failure. One of version 2 was recovered, as far as the disk allowed; what stood for a state stands for it still.
  -- Nothing of the streams was read or written.
  pub record RefusesFile (limit : ℕ) (old : D) (result : Result D (Option D × Failure)) (unread unread_now before after : Option (List ℕ)) : Type 0 where
    pub disk : D
    pub why : Refusal
    pub refused : result ≡ Err (Some disk, Refused why)
    pub wants : WantsOpening why
    pub count : CountsFault why (d.failures old) (d.failures disk)
    pub damaged : why ≡ refusal.DamagedFile → IsNoFileOfAny limit (d.seen old)
    pub left_open : why ≡ refusal.FileNotClosed → IsLeftOpen limit (d.seen old)
    pub recovers : (map : PageMap) (pages : FilePages) → ArePages map pages → Recovers (d.seen old) pages → Recovered d pages result old disk
    pub preserves : PreservesFile d limit old (Err (disk, why))
    pub input : Keeps unread unread_now
    pub output : Keeps before after

  -- what comes of the file that an honest disk holds
  abbrev pub ServesFile : ℕ → D → Result D (Option D × Failure) → Option (List ℕ) → Option (List ℕ) → Option (List ℕ) → Option (List ℕ) → Type 0
  ServesFile limit old result unread unread_now before after =
      ServesState limit old result unread unread_now before after ⊎ RefusesFile limit old result unread unread_now before after

  -- ---- connections in place of the input

  -- Connections at an address were served by this machine, and then the file was closed, over a disk as it was, where a state was kept
  -- last; the first failure is told. Some calls lead from the first machine to the last, and a crash by the end leaves the state after a
  -- front of them.
  pub record ServesAtAndCloses (limit : ℕ) (address : Bor (List ℕ)) (connections : ℕ) (first : Machine) (kept : State) (old : D) (result : Result D (Option D × Failure)) (before after : Option (List ℕ)) : Type 0 where
    pub failure : Option Failure
    pub last : Machine
    pub served : ServesAddress address connections failure first last before after
    pub closes : Closes limit last failure result
    pub calls : List Call
    pub goes : GoThrough calls first last
    pub crashes : IsTrue (d.keeps_crashes old) → LeavesFrontOf limit calls first kept old result

  -- the disk stood for a state, from which on they were served, with the counts and the images of a crash as above
  pub record ServesStateAt (limit : ℕ) (address : Bor (List ℕ)) (connections : ℕ) (old : D) (result : Result D (Option D × Failure)) (before after : Option (List ℕ)) : Type 0 where
    pub first : Machine
    pub stood : Stands limit (d.seen old) first.state
    pub failures : first.failures ≡ d.failures old
    pub full : first.full_refusals ≡ 0
    pub opened : D
    pub serves : ServesAtAndCloses limit address connections first first.state opened result before after
    pub crashes : IsTrue (d.keeps_crashes old) → LeavesFrontSince limit serves.calls first old result

  -- what comes of the file that an honest disk holds, where no input is read
  abbrev pub ServesFileAt : ℕ → Bor (List ℕ) → ℕ → D → Result D (Option D × Failure) → Option (List ℕ) → Option (List ℕ) → Type 0
  ServesFileAt limit address connections old result before after =
      ServesStateAt limit address connections old result before after ⊎ RefusesFile limit old result None None before after

  -- ---- a file that is made

  -- it wasn't made, for this reason: 91 counts one failure
  pub record RefusesToCreate (old : D) (result : Result D (Option D × Failure)) : Type 0 where
    pub disk : D
    pub why : Refusal
    pub refused : result ≡ Err (Some disk, Refused why)
    pub wants : WantsCreating why
    pub count : CountsFault why (d.failures old) (d.failures disk)
    pub sound : why ≢ refusal.DamagedFile

  -- what comes of a file that is made: it was closed with nothing in it, or it was not made or not closed
  abbrev pub CreatesFile : ℕ → D → Result D (Option D × Failure) → Type 0
  CreatesFile limit old result =
      ((machine : Machine) × (machine.state ≡ fresh) × (machine.failures ≡ d.failures old) × Closes limit machine None result) ⊎ RefusesToCreate old result
