-- What comes of a file as it was opened: of a disk, or of the failure that says why there is none.
use Rattle.std.specs.Prelude.{◌≡◌, ◌⊎◌, ℕ, Bool, true, false, List, Option, Some, None, Result, Ok, Err, IsTrue}
use Rattle.std.specs.Borrow.{Bor}
use Rattle.std.specs.Io.KnownBytes.{Keeps}
use Rattle.std.specs.List.{list_all}
use Rattle.rs_csv_answers.specs.Words.{asks_rows}
use Rattle.rs_disk.specs.declared.disk.Disk as disk
use Rattle.rs_file_dump.specs.Files.{DumpsDisk}
use Rattle.rs_pages.specs.declared.pages.TheConstants.{GREATEST_LIMIT}
use Rattle.rs_server.specs.AsCsv.{AnswersFile, Outcome}
use Rattle.rs_server.specs.Asking.{AsksDisk, FailsToAsk}
use Rattle.rs_server.specs.Disks.{CreatesFile, ServesFile, ServesFileAt, told_of}
use Rattle.rs_server.specs.Dumping.{FailsToDump}
use Rattle.rs_server.specs.Saying.{SaysFront, failure_line}
use Rattle.rs_server.specs.declared.file_system.Opening.{Opening}
use Rattle.rs_server.specs.declared.file_system.Opening.TheVariants.{New, Reading, Writing}
use Rattle.rs_server.specs.declared.report.Failure.{Failure}
use Rattle.rs_server.specs.declared.report.TheConstants.{FAILED, MISUSE, SUCCESS}

module _ {D : Type 0} (d : disk.Ghosts D) where
  -- There is no disk, and the failure is told. Or what comes of a file that is made on an honest one is what was told: no failure only where
  -- it was made and closed.
  abbrev pub CreatesOpened : Result D Failure → Option Failure → Type 0
  CreatesOpened (Err failure) told = told ≡ Some failure
  CreatesOpened (Ok disk) told = IsTrue (d.is_honest disk)
      → (ended : Result D (Option D × Failure)) × CreatesFile d GREATEST_LIMIT disk ended × (told ≡ told_of ended)

  -- There is no disk: the failure is told, and nothing of the streams was read or written. Or the file on an honest one was served, and what
  -- came of it is told: no failure only where the input was served to its end and the file closed.
  abbrev pub ServesOpened : Result D Failure → Option Failure → Option (List ℕ) → Option (List ℕ) → Option (List ℕ) → Option (List ℕ) → Type 0
  ServesOpened (Err failure) told unread unread_now before after = (told ≡ Some failure) × Keeps unread unread_now × Keeps before after
  ServesOpened (Ok disk) told unread unread_now before after = IsTrue (d.is_honest disk)
      → (ended : Result D (Option D × Failure)) × ServesFile d GREATEST_LIMIT disk ended unread unread_now before after × (told ≡ told_of ended)

  -- the same of connections at an address, in place of an input
  abbrev pub ServesOpenedAt : Bor (List ℕ) → ℕ → Result D Failure → Option Failure → Option (List ℕ) → Option (List ℕ) → Type 0
  ServesOpenedAt address connections (Err failure) told before after = (told ≡ Some failure) × Keeps before after
  ServesOpenedAt address connections (Ok disk) told before after = IsTrue (d.is_honest disk)
      → (ended : Result D (Option D × Failure)) × ServesFileAt d GREATEST_LIMIT address connections disk ended before after × (told ≡ told_of ended)

  -- There is no disk: the failure is told, and nothing was put. Or lines were answered over it as CSV, and what came of it is told.
  abbrev pub AnswersOpened : Result D Failure → Outcome → Option Failure → Option (List ℕ) → Option (List ℕ) → Option (List ℕ) → Type 0
  AnswersOpened (Err failure) outcome told unread before after = (told ≡ Some failure) × (outcome ≡ None) × Keeps before after
  AnswersOpened (Ok disk) outcome told unread before after = IsTrue (d.is_honest disk)
      → (ended : Result D (Option D × Failure)) × AnswersFile d GREATEST_LIMIT disk outcome ended unread before after × (told ≡ told_of ended)

  -- The status is one of these two: with 0 all that was wanted of an honest disk was written, with 1 something of it was left out, or it stopped.
  pub record Dumps (table : Option (List ℕ)) (omits_rows : Bool) (disk : D) (status : ℕ) (before after : Option (List ℕ)) : Type 0 where
    pub is : (status ≡ SUCCESS) ⊎ (status ≡ FAILED)
    pub dumps : IsTrue (d.is_honest disk) → status ≡ SUCCESS → DumpsDisk GREATEST_LIMIT (d.seen disk) table omits_rows false before after
    pub fails : IsTrue (d.is_honest disk) → status ≡ FAILED → FailsToDump GREATEST_LIMIT (d.seen disk) table omits_rows before after

  -- There is no disk: the errors stream says the failure, and nothing was written. Or it was dumped.
  abbrev pub DumpsOpened : Option (List ℕ) → Bool → Result D Failure → ℕ → Option (List ℕ) → Option (List ℕ) → Option (List ℕ) → Option (List ℕ) → Type 0
  DumpsOpened table omits_rows (Err failure) status before after errors errors_now =
      (status ≡ FAILED) × Keeps before after × SaysFront (failure_line failure) errors errors_now
  DumpsOpened table omits_rows (Ok disk) status before after errors errors_now = Dumps table omits_rows disk status before after

  -- The status is one of these two: with 0 all questions of an honest disk were answered, with 1 some were refused, or it failed.
  pub record Asks (questions : List (List ℕ)) (disk : D) (status : ℕ) (before after errors errors_now : Option (List ℕ)) : Type 0 where
    pub is : (status ≡ SUCCESS) ⊎ (status ≡ FAILED)
    pub asks : IsTrue (d.is_honest disk) → status ≡ SUCCESS → AsksDisk GREATEST_LIMIT (d.seen disk) questions true before after
    pub fails : IsTrue (d.is_honest disk) → status ≡ FAILED → FailsToAsk GREATEST_LIMIT (d.seen disk) questions before after errors errors_now

  -- There is no disk: the errors stream says the failure, and nothing was written. Or the questions were asked.
  abbrev pub AsksOpened : List (List ℕ) → Result D Failure → ℕ → Option (List ℕ) → Option (List ℕ) → Option (List ℕ) → Option (List ℕ) → Type 0
  AsksOpened questions (Err failure) status before after errors errors_now = (status ≡ FAILED) × Keeps before after × SaysFront (failure_line failure) errors errors_now
  AsksOpened questions (Ok disk) status before after errors errors_now = Asks questions disk status before after errors errors_now

  -- ---- by its name, where this is what opening a file of a name may give
  module _ (Gives : Opening → List ℕ → Result D Failure → Type 0) where
    abbrev pub CreatesNamed : List ℕ → Option Failure → Type 0
    CreatesNamed file told = (opened : Result D Failure) × Gives New file opened × CreatesOpened opened told

    abbrev pub ServesNamed : List ℕ → Option Failure → Option (List ℕ) → Option (List ℕ) → Option (List ℕ) → Option (List ℕ) → Type 0
    ServesNamed file told unread unread_now before after =
        (opened : Result D Failure) × Gives Writing file opened × ServesOpened opened told unread unread_now before after

    abbrev pub ServesNamedAt : List ℕ → Bor (List ℕ) → ℕ → Option Failure → Option (List ℕ) → Option (List ℕ) → Type 0
    ServesNamedAt file address connections told before after =
        (opened : Result D Failure) × Gives Writing file opened × ServesOpenedAt address connections opened told before after

    abbrev pub AnswersNamed : List ℕ → Outcome → Option Failure → Option (List ℕ) → Option (List ℕ) → Option (List ℕ) → Type 0
    AnswersNamed file outcome told unread before after =
        (opened : Result D Failure) × Gives Writing file opened × AnswersOpened opened outcome told unread before after

    abbrev pub DumpsNamed : List ℕ → Option (List ℕ) → Bool → ℕ → Option (List ℕ) → Option (List ℕ) → Option (List ℕ) → Option (List ℕ) → Type 0
    DumpsNamed file table omits_rows status before after errors errors_now =
        (opened : Result D Failure) × Gives Reading file opened × DumpsOpened table omits_rows opened status before after errors errors_now

    -- where some text is no question nothing is opened, and nothing written
    abbrev pub AsksNamed : List ℕ → List (List ℕ) → ℕ → Option (List ℕ) → Option (List ℕ) → Option (List ℕ) → Option (List ℕ) → Type 0
    AsksNamed file questions status before after errors errors_now =
        ((list_all asks_rows questions ≡ false) × (status ≡ MISUSE) × Keeps before after)
        ⊎ ((opened : Result D Failure) × (list_all asks_rows questions ≡ true) × Gives Reading file opened × AsksOpened questions opened status before after errors errors_now)
