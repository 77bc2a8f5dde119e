-- What comes of lines that are answered as CSV, over memory or over a file.
use Rattle.std.specs.Prelude.{◌≡◌, ℕ, Bool, false, ◌==◌, List, Option, Some, None, Result, Ok, Err, IsTrue, if◌then◌else◌}
use Rattle.std.specs.Io.KnownBytes.{Keeps}
use Rattle.rs_csv_answers.specs.Lines.{EndsAsCsv}
use Rattle.rs_csv_answers.specs.declared.lines.Answered.{Answered}
use Rattle.rs_disk.specs.declared.disk.Disk as disk
use Rattle.rs_engine.specs.Calls.{WantsCreating}
use Rattle.rs_engine.specs.Crashes.{Call, GoThrough}
use Rattle.rs_engine.specs.Standing.{Stands}
use Rattle.rs_machine.specs.Served.{Machine}
use Rattle.rs_machine.specs.State.{State, fresh}
use Rattle.rs_protocol.specs.declared.stream.Fault.{Fault}
use Rattle.rs_refusal.specs.declared.refusal.Refusal.{Refusal}
use Rattle.rs_server.specs.Disks.{Closes, LeavesFrontOf, LeavesFrontSince, RefusesFile}
use Rattle.rs_server.specs.declared.report.Failure.{Failure}
use Rattle.rs_server.specs.declared.report.Failure.TheVariants.{Refused, Stream}
use Rattle.rs_server.specs.declared.report.TheConstants.{FAILED, SUCCESS}

-- how the lines were answered; none where there was nothing to serve them over
abbrev pub Outcome : Type 0
Outcome = Option (Result Answered Fault)

abbrev pub failure_of_lines : Result Answered Fault → Option Failure
failure_of_lines (Ok answered) = None
failure_of_lines (Err fault) = Some (Stream fault)

-- the lines were answered, and none was refused
abbrev pub has_answered_all : Outcome → Bool
has_answered_all (Some (Ok answered)) = answered.refused == 0
has_answered_all (Some (Err fault)) = false
has_answered_all None = false

-- the exit status
abbrev pub status_after : Outcome → Option Failure → ℕ
status_after outcome None = if has_answered_all outcome then SUCCESS else FAILED
status_after outcome (Some failure) = FAILED

-- nothing was said on the errors stream, unless a line was refused or a fault ended it
abbrev pub IsQuietAfter : Outcome → Option (List ℕ) → Option (List ℕ) → Type 0
IsQuietAfter (Some (Ok answered)) errors errors_now = answered.refused ≡ 0 → Keeps errors errors_now
IsQuietAfter (Some (Err fault)) errors errors_now = Unit {0}
IsQuietAfter None errors errors_now = Keeps errors errors_now

-- What the input told was answered by a machine, which was the first one at the beginning and the last one at the end, and the CSV of its
-- replies is put.
pub record AnswersInput (outcome : Result Answered Fault) (first last : Machine) (unread before after : Option (List ℕ)) : Type 0 where
  pub unread_now : Option (List ℕ)
  pub ended : EndsAsCsv outcome unread unread_now first last before after

-- a new machine answered, with no failure counted
pub record AnswersByNew (outcome : Result Answered Fault) (failure : Option Failure) (unread before after : Option (List ℕ)) : Type 0 where
  pub first : Machine
  pub new : first.state ≡ fresh
  pub failures : first.failures ≡ 0
  pub last : Machine
  pub answered : AnswersInput outcome first last unread before after
  pub told : failure ≡ failure_of_lines outcome

-- or there was no memory for one, and nothing was put
abbrev pub AnswersInMemory : Outcome → Option Failure → Option (List ℕ) → Option (List ℕ) → Option (List ℕ) → Type 0
AnswersInMemory (Some outcome) failure unread before after = AnswersByNew outcome failure unread before after
AnswersInMemory None failure unread before after = ((why : Refusal) × WantsCreating why × (failure ≡ Some (Refused why))) × Keeps before after

module _ {D : Type 0} (d : disk.Ghosts D) where
  -- The lines were answered by this machine, and then the file was closed, over a disk as it was, where a state was kept last. Some calls lead
  -- from the first machine to the last, and a crash by the end leaves the state after a front of them.
  pub record AnswersAndCloses (limit : ℕ) (first : Machine) (kept : State) (old : D) (outcome : Result Answered Fault) (result : Result D (Option D × Failure)) (unread before after : Option (List ℕ)) : Type 0 where
    pub last : Machine
    pub answered : AnswersInput outcome first last unread before after
    pub closes : Closes d limit last (failure_of_lines outcome) result
    pub calls : List Call
    pub goes : GoThrough calls first last
    pub crashes : IsTrue (d.keeps_crashes old) → LeavesFrontOf d limit calls first kept old result

  -- the disk stood for a state, from which on they were answered, with the counts and the images of a crash as where `run` serves it
  pub record AnswersState (limit : ℕ) (old : D) (outcome : Result Answered Fault) (result : Result D (Option D × Failure)) (unread before after : Option (List ℕ)) : Type 0 where
    pub first : Machine
    pub stood : Stands limit (d.seen old) first.state
    pub failures : first.failures ≡ d.failures old
    pub full : first.full_refusals ≡ 0
    pub opened : D
    pub answers : AnswersAndCloses limit first first.state opened outcome result unread before after
    pub crashes : IsTrue (d.keeps_crashes old) → LeavesFrontSince d limit answers.calls first old result

  -- what comes of the file that an honest disk holds
  abbrev pub AnswersFile : ℕ → D → Outcome → Result D (Option D × Failure) → Option (List ℕ) → Option (List ℕ) → Option (List ℕ) → Type 0
  AnswersFile limit old (Some outcome) result unread before after = AnswersState limit old outcome result unread before after
  AnswersFile limit old None result unread before after = RefusesFile d limit old result unread unread before after
