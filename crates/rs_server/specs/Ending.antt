-- How the program ends.
use Rattle.std.specs.Prelude.{◌≡◌, ◌≢◌, ◌⊎◌, ℕ, List, [], ◌∷◌, Option, Some, None, Result, Ok, Err, Bool, true, false, map}
use Rattle.std.specs.Io.KnownBytes.{Consumes, Keeps}
use Rattle.std.specs.Option.{option_map}
use Rattle.clap.specs.Words.{IsAmong, Kinds}
use Rattle.clap.specs.declared.error.kind.ErrorKind.{ErrorKind}
use Rattle.clap.specs.declared.error.kind.ErrorKind.TheVariants.{DisplayHelp, DisplayVersion, OutOfMemory}
use Rattle.clap.specs.declared.error.Error.{Error}
use Rattle.clap.specs.Values.{kind_of}
use Rattle.rs_command_line.specs.Asked.{CsvSaid, Said, answers, converts, watches}
use Rattle.rs_command_line.specs.declared.command_line.Asked.{Asked}
use Rattle.rs_command_line.specs.declared.command_line.Asked.TheVariants.{Ask, Create, Csv, Dump, Explain, Run, RunAsCsv, RunFile, RunWatched, Serve, Table}
use Rattle.rs_csv.specs.Output.{Ends, IsAsked}
use Rattle.rs_csv.specs.declared.filter.Stop.{Stop}
use Rattle.rs_csv.specs.declared.filter.Wanted.{Wanted}
use Rattle.rs_disk.specs.declared.disk.Disk as disk
use Rattle.rs_encodings.specs.Texts.{decoded}
use Rattle.rs_encodings.specs.declared.encoding.Encoding.{Encoding}
use Rattle.rs_encodings.specs.declared.encoding.Encoding.TheVariants.{ByMark, Latin1}
use Rattle.rs_machine.specs.Served.{Machine}
use Rattle.rs_machine.specs.State.{fresh}
use Rattle.rs_protocol.specs.declared.stream.End.{End}
use Rattle.rs_protocol.specs.declared.stream.Fault.{Fault}
use Rattle.rs_protocol.specs.declared.stream.Fault.TheVariants.{Write}
use Rattle.rs_refusal.specs.declared.refusal.Refusal.{Refusal}
use Rattle.rs_refusal.specs.declared.refusal.Refusal.TheVariants as refusals
use Rattle.rs_server.specs.Aligning.{AlignsInput}
use Rattle.rs_server.specs.AsCsv.{AnswersInMemory, Outcome, status_after}
use Rattle.rs_server.specs.Disks.{ServesInput, failure_of}
use Rattle.rs_server.specs.Opened.{AnswersNamed, AsksNamed, CreatesNamed, DumpsNamed, ServesNamed, ServesNamedAt}
use Rattle.rs_server.specs.Saying.{SaysFront, failure_line}
use Rattle.rs_server.specs.declared.file_system.Opening.{Opening}
use Rattle.rs_server.specs.declared.report.Failure.{Failure}
use Rattle.rs_server.specs.declared.report.Failure.TheVariants.{Refused, Stream}
use Rattle.rs_server.specs.declared.report.TheConstants.{FAILED, MISUSE, SUCCESS}
use Rattle.rs_syntax.specs.Tree.{CommandTree}
use Rattle.rs_engine.specs.Calls.{WantsCreating}

-- ---- failures

-- the status of a program that failed so, or did not
abbrev pub status_of : Option Failure → ℕ
status_of None = SUCCESS
status_of (Some failure) = FAILED

-- what it says of that on the errors stream: nothing, or the failure
abbrev pub SaysFailure : Option Failure → Option (List ℕ) → Option (List ℕ) → Type 0
SaysFailure None before after = Keeps before after
SaysFailure (Some failure) before after = SaysFront (failure_line failure) before after

-- it ends by this failure, or by none
pub record EndsWith (failure : Option Failure) (status : ℕ) (errors errors_now : Option (List ℕ)) : Type 0 where
  pub status_is : status ≡ status_of failure
  pub said : SaysFailure failure errors errors_now

-- ---- what the words ask

-- What the input told was served by a new machine, which had counted no failure of a call, on the output. Nothing that outlives the run tells
-- of the memory in which its file was, so what is counted at the end is tied to nothing.
pub record ServesLines (failure : Option Failure) (unread unread_now before after : Option (List ℕ)) : Type 0 where
  pub outcome : Result End Fault
  pub first : Machine
  pub new : first.state ≡ fresh
  pub failures : first.failures ≡ 0
  pub last : Machine
  pub served : ServesInput outcome first last unread unread_now before after
  pub told : failure ≡ failure_of outcome

-- there was no memory for a machine, and nothing was read or written
pub record LacksMachine (failure : Option Failure) (unread unread_now before after : Option (List ℕ)) : Type 0 where
  pub why : Refusal
  pub wants : WantsCreating why
  pub sound : why ≢ refusals.DamagedFile
  pub told : failure ≡ Some (Refused why)
  pub input : Keeps unread unread_now
  pub output : Keeps before after

-- `run` without a file
abbrev pub Runs : Option Failure → Option (List ℕ) → Option (List ℕ) → Option (List ℕ) → Option (List ℕ) → Type 0
Runs failure unread unread_now before after = ServesLines failure unread unread_now before after ⊎ LacksMachine failure unread unread_now before after

-- how the input of `csv` is encoded
abbrev pub encoding_of : Bool → Encoding
encoding_of true = Latin1
encoding_of false = ByMark

-- `csv` writes what is made of the records of what was told of the input's text, or a front of it, as lines of the table that some words
-- define; of the whole text, and nothing was told and left out, where the status is 0. With another status it may read and write nothing.
abbrev pub WritesLines : Encoding → ℕ → Option (List ℕ) → Option (List ℕ) → Option (List ℕ) → Option (List ℕ) → Type 0
WritesLines encoding status unread unread_now before after =
    ((status ≢ SUCCESS) × Keeps unread unread_now × Keeps before after)
    ⊎ ((wanted : Wanted) × (table : CommandTree) × (IsAsked wanted table ⊎ Keeps before after) × (outcome : Result Bool Stop) × (told : List ℕ) × (untold : Option (List ℕ))
    × Consumes (option_map (decoded encoding) unread) untold told × Ends wanted table outcome told untold before after × (status ≡ SUCCESS → outcome ≡ Ok false))

-- ---- what is done, where this is what opening a file of a name may give

module _ {D : Type 0} (d : disk.Ghosts D) (Gives : Opening → List ℕ → Result D Failure → Type 0) where
  -- `run` over a file, where there is one
  abbrev pub RunsOver : Option (List ℕ) → Option Failure → Option (List ℕ) → Option (List ℕ) → Option (List ℕ) → Option (List ℕ) → Type 0
  RunsOver None failure unread unread_now before after = Runs failure unread unread_now before after
  RunsOver (Some file) failure unread unread_now before after = ServesNamed d Gives file failure unread unread_now before after

  -- some streams in its place: nothing is known of the streams of `run` with options, as they are wrapped
  abbrev pub RunsWatched : Option (List ℕ) → Option Failure → Type 0
  RunsWatched file failure =
      (unread : Option (List ℕ)) × (unread_now : Option (List ℕ)) × (before : Option (List ℕ)) × (after : Option (List ℕ)) × RunsOver file failure unread unread_now before after

  -- the status is that of the failure, or 1 where a line was refused
  pub record EndsWatched (file : Option (List ℕ)) (status : ℕ) : Type 0 where
    pub failure : Option Failure
    pub runs : RunsWatched file failure
    pub status_is : (status ≡ status_of failure) ⊎ (status ≡ FAILED)

  -- `run --csv` over a file, where there is one
  abbrev pub AnswersOver : Option (List ℕ) → Outcome → Option Failure → Option (List ℕ) → Option (List ℕ) → Option (List ℕ) → Type 0
  AnswersOver None outcome failure unread before after = AnswersInMemory outcome failure unread before after
  AnswersOver (Some file) outcome failure unread before after = AnswersNamed d Gives file outcome failure unread before after

  -- the status is that of how the lines were answered, and of the first failure
  pub record EndsAnswering (file : Option (List ℕ)) (status : ℕ) (unread before after : Option (List ℕ)) : Type 0 where
    pub outcome : Outcome
    pub failure : Option Failure
    pub answers : AnswersOver file outcome failure unread before after
    pub status_is : status ≡ status_after outcome failure

  -- What is done as it is asked, where this failed or nothing did. What a peer tells and is told is not known.
  abbrev pub Does : Asked → Option Failure → Option (List ℕ) → Option (List ℕ) → Option (List ℕ) → Option (List ℕ) → Type 0
  Does Run failure unread unread_now before after = Runs failure unread unread_now before after
  Does (RunFile file) failure unread unread_now before after = ServesNamed d Gives file.now failure unread unread_now before after
  Does (Create file) failure unread unread_now before after = CreatesNamed d Gives file.now failure × Keeps unread unread_now × Keeps before after
  Does (Serve file address connections) failure unread unread_now before after =
      ServesNamedAt d Gives file.now address connections failure before after × Keeps unread unread_now
  Does (RunWatched file bails reports) failure unread unread_now before after = Unit {0}
  Does (RunAsCsv file bails reports) failure unread unread_now before after = Unit {0}
  Does (Table separator) failure unread unread_now before after = Unit {0}
  Does (Ask file questions) failure unread unread_now before after = Keeps unread unread_now
  Does (Csv words) failure unread unread_now before after = (status : ℕ) × WritesLines (encoding_of words.is_latin1) status unread unread_now before after
  Does (Dump file table omits_rows) failure unread unread_now before after = Keeps unread unread_now
  Does (Explain refusal) failure unread unread_now before after = Keeps unread unread_now

  -- The program does what is asked, and its status and the errors stream say what failed. What is said on the errors stream by `run` with
  -- options, `csv`, `table` and `explain` is not known, nor by `dump` and `ask` of a file that was opened.
  abbrev pub EndsDoing : Asked → ℕ → Option (List ℕ) → Option (List ℕ) → Option (List ℕ) → Option (List ℕ) → Option (List ℕ) → Option (List ℕ) → Type 0
  EndsDoing (RunWatched file bails reports) status unread unread_now before after errors errors_now = EndsWatched (option_map (λ t. t.now) file) status
  EndsDoing (RunAsCsv file bails reports) status unread unread_now before after errors errors_now = EndsAnswering (option_map (λ t. t.now) file) status unread before after
  EndsDoing (Table separator) status unread unread_now before after errors errors_now = AlignsInput (option_map (λ t. t.now) separator) status unread unread_now before after
  EndsDoing (Ask file questions) status unread unread_now before after errors errors_now =
      AsksNamed d Gives file.now (map (λ question. question.now) questions.items) status before after errors errors_now × Keeps unread unread_now
  EndsDoing (Csv words) status unread unread_now before after errors errors_now = WritesLines (encoding_of words.is_latin1) status unread unread_now before after
  EndsDoing (Dump file table omits_rows) status unread unread_now before after errors errors_now =
      DumpsNamed d Gives file.now (option_map (λ t. t.now) table) omits_rows status before after errors errors_now × Keeps unread unread_now
  EndsDoing (Explain refusal) status unread unread_now before after errors errors_now = Keeps unread unread_now
  EndsDoing asked status unread unread_now before after errors errors_now =
      (failure : Option Failure) × Does asked failure unread unread_now before after × EndsWith failure status errors errors_now

-- it says nothing on the errors stream, but where it is asked to report, or to round
abbrev pub IsQuiet : Asked → Option (List ℕ) → Option (List ℕ) → Type 0
IsQuiet (RunWatched file bails true) errors errors_now = Unit {0}
IsQuiet (RunAsCsv file bails true) errors errors_now = Unit {0}
IsQuiet (Csv words) errors errors_now = words.rounds ≡ false → Keeps errors errors_now
IsQuiet asked errors errors_now = Keeps errors errors_now

-- the words ask to report, or to round
abbrev pub SaysMore : Option Said → Type 0
SaysMore asked = ((file : Option (List ℕ)) × (bails : Bool) × (asked ≡ Some (watches file bails true)))
    ⊎ ((file : Option (List ℕ)) × (bails : Bool) × (asked ≡ Some (answers file bails true)))
    ⊎ ((said : CsvSaid) × (asked ≡ Some (converts said)) × (said.rounds ≡ true))

abbrev pub IsQuietAs : Result Asked Error → Option (List ℕ) → Option (List ℕ) → Type 0
IsQuietAs (Ok asked) errors errors_now = IsQuiet asked errors errors_now
IsQuietAs (Err error) errors errors_now = Keeps errors errors_now

-- ---- other words

-- Help or the version was asked for. Nothing is read, and a failure is one of the output, of which the errors stream says so.
pub record ShowsHelp (kinds : Kinds) (status : ℕ) (unread unread_now errors errors_now : Option (List ℕ)) : Type 0 where
  pub asked : IsAmong DisplayHelp kinds ⊎ IsAmong DisplayVersion kinds
  pub ends : EndsWith None status errors errors_now ⊎ EndsWith (Some (Stream Write)) status errors errors_now
  pub input : Keeps unread unread_now

-- The words are refused, of one of their kinds of fault. Nothing is read or written.
pub record RefusesWords (kinds : Kinds) (status : ℕ) (unread unread_now before after : Option (List ℕ)) : Type 0 where
  pub kind : ErrorKind
  pub is_fault : IsAmong kind kinds
  pub no_help : kind ≢ DisplayHelp
  pub no_version : kind ≢ DisplayVersion
  pub status_is : status ≡ MISUSE
  pub input : Keeps unread unread_now
  pub output : Keeps before after

-- Memory was wanting in reading the words. Nothing is read or written, and the errors stream says so.
pub record LacksMemory (status : ℕ) (unread unread_now before after errors errors_now : Option (List ℕ)) : Type 0 where
  pub input : Keeps unread unread_now
  pub output : Keeps before after
  pub ends : EndsWith (Some (Refused refusals.OutOfMemory)) status errors errors_now

-- how it ends on a kind of fault in reading the words: want of memory has this cause alone
abbrev pub EndsOn : ErrorKind → ℕ → Option (List ℕ) → Option (List ℕ) → Option (List ℕ) → Option (List ℕ) → Option (List ℕ) → Option (List ℕ) → Type 0
EndsOn OutOfMemory status unread unread_now before after errors errors_now = LacksMemory status unread unread_now before after errors errors_now
EndsOn DisplayHelp status unread unread_now before after errors errors_now = ShowsHelp (DisplayHelp ∷ []) status unread unread_now errors errors_now
EndsOn DisplayVersion status unread unread_now before after errors errors_now = ShowsHelp (DisplayVersion ∷ []) status unread unread_now errors errors_now
EndsOn kind status unread unread_now before after errors errors_now = RefusesWords (kind ∷ []) status unread unread_now before after

module _ {D : Type 0} (d : disk.Ghosts D) (Gives : Opening → List ℕ → Result D Failure → Type 0) where
  -- how it ends as the words were read: it does what they ask wherever they ask it
  abbrev pub EndsAs : Result Asked Error → ℕ → Option (List ℕ) → Option (List ℕ) → Option (List ℕ) → Option (List ℕ) → Option (List ℕ) → Option (List ℕ) → Type 0
  EndsAs (Ok asked) status unread unread_now before after errors errors_now = EndsDoing d Gives asked status unread unread_now before after errors errors_now
  EndsAs (Err error) status unread unread_now before after errors errors_now = EndsOn (kind_of error) status unread unread_now before after errors errors_now

  -- how it ends on words with these kinds of fault, none of them where they ask this
  abbrev pub EndsBy : Kinds → (Asked → Type 0) → ℕ → Option (List ℕ) → Option (List ℕ) → Option (List ℕ) → Option (List ℕ) → Option (List ℕ) → Option (List ℕ) → Type 0
  EndsBy kinds Asks status unread unread_now before after errors errors_now =
      ((kinds ≡ []) × ((asked : Asked) × Asks asked × EndsDoing d Gives asked status unread unread_now before after errors errors_now))
      ⊎ ShowsHelp kinds status unread unread_now errors errors_now
      ⊎ RefusesWords kinds status unread unread_now before after
      ⊎ LacksMemory status unread unread_now before after errors errors_now
