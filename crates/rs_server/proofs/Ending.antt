-- How the program ends on its words follows from how it ends as they were read.
use Rattle.std.proofs.Common.{◌≡◌, ◌≢◌, ℕ, Bool, true, false, List, [], ◌∷◌, ◌⊎◌, Option, Some, Result, Ok, Err, inl, inr, refl, sym, subst}
use Rattle.std.specs.Prelude.{IfOk}
use Rattle.clap.specs.Words.{FailsBy, IsAmong, Kinds}
use Rattle.clap.specs.Values.{kind_of}
use Rattle.clap.specs.declared.error.Error.{Error}
use Rattle.clap.specs.declared.error.kind.ErrorKind.{ErrorKind}
use Rattle.clap.specs.declared.error.kind.ErrorKind.TheVariants as kinds
use Rattle.std.specs.Io.KnownBytes.{Keeps}
use Rattle.std.specs.Borrow.{Bor}
use Rattle.rs_command_line.specs.Asked.{Said, csv_said, given_text, said_by}
use Rattle.rs_command_line.specs.declared.command_line.CsvWords.{CsvWords}
use Rattle.rs_command_line.specs.declared.command_line.Asked.{Asked}
use Rattle.rs_command_line.specs.declared.command_line.Asked.TheVariants as asked
use Rattle.rs_disk.specs.declared.disk.Disk as disk
use Rattle.rs_server.specs.declared.file_system.Opening.{Opening}
use Rattle.rs_server.specs.declared.report.Failure.{Failure}
use Rattle.rs_server.specs.declared.report.TheConstants.{MISUSE}
use Rattle.rs_server.specs.Ending.{ShowsHelp, RefusesWords, LacksMemory, EndsBy, EndsOn, EndsAs, IsQuiet, IsQuietAs, SaysMore}

-- the one kind of a list
only : (kind other : ErrorKind) → IsAmong kind (other ∷ []) → kind ≡ other
only kind other (inl is) = is
only kind other (inr none) = absurd none

-- what is among the one kind is among those that it is among
among_all : (all : Kinds) (kind other : ErrorKind) → IsAmong other all → IsAmong kind (other ∷ []) → IsAmong kind all
among_all all kind other among one = subst (λ k. IsAmong k all) (sym (only kind other one)) among

module _ {D : Type 0} (g : disk.Ghosts D) (Gives : Opening → List ℕ → Result D Failure → Type 0) (all : Kinds) (Asks : Asked → Type 0) (status : ℕ)
    (a b c d e f : Option (List ℕ)) where
  shows : (kind : ErrorKind) → IsAmong kind all → ShowsHelp (kind ∷ []) status a b e f → EndsBy g Gives all Asks status a b c d e f
  shows kind among help = inr (inl (record {
    asked = elim help.asked [
      | inl is ↦ inl (among_all all kinds.DisplayHelp kind among is)
      | inr is ↦ inr (among_all all kinds.DisplayVersion kind among is)
    ];
    ends = help.ends;
    input = help.input;
  }))

  refuses : (kind : ErrorKind) → IsAmong kind all → RefusesWords (kind ∷ []) status a b c d → EndsBy g Gives all Asks status a b c d e f
  refuses kind among words = inr (inr (inl (record {
    kind = words.kind;
    is_fault = among_all all words.kind kind among words.is_fault;
    no_help = words.no_help;
    no_version = words.no_version;
    status_is = words.status_is;
    input = words.input;
    output = words.output;
  })))

  on_kind : (kind : ErrorKind) → (kind ≡ kinds.OutOfMemory) ⊎ IsAmong kind all → EndsOn kind status a b c d e f → EndsBy g Gives all Asks status a b c d e f
  on_kind kinds.OutOfMemory why ends = inr (inr (inr ends))
  on_kind kinds.DisplayHelp (inl is) ends = cc
  on_kind kinds.DisplayHelp (inr among) ends = shows kinds.DisplayHelp among ends
  on_kind kinds.DisplayVersion (inl is) ends = cc
  on_kind kinds.DisplayVersion (inr among) ends = shows kinds.DisplayVersion among ends
  on_kind kind (inl is) ends = cc
  on_kind kind (inr among) ends = refuses kind among ends

  pub ends_by : (asked : Result Asked Error) → FailsBy all asked → IfOk asked Asks → EndsAs g Gives asked status a b c d e f → EndsBy g Gives all Asks status a b c d e f
  ends_by (Ok asked) none asks ends = inl (none, (asked, asks, ends))
  ends_by (Err error) why asks ends = on_kind (kind_of error) why ends

-- how it ends on a kind of fault, by that kind
pub on_memory : (kind : ErrorKind) (status : ℕ) (a b c d e f : Option (List ℕ)) → kind ≡ kinds.OutOfMemory → LacksMemory status a b c d e f → EndsOn kind status a b c d e f
on_memory kind status a b c d e f is ends = subst (λ k. EndsOn k status a b c d e f) (sym is) ends

pub on_help : (kind : ErrorKind) (status : ℕ) (a b c d e f : Option (List ℕ)) → (kind ≡ kinds.DisplayHelp) ⊎ (kind ≡ kinds.DisplayVersion) → ShowsHelp (kind ∷ []) status a b e f
    → EndsOn kind status a b c d e f
on_help kind status a b c d e f (inl is) ends = subst (λ k. EndsOn k status a b c d e f) (sym is) (subst (λ k. ShowsHelp (k ∷ []) status a b e f) is ends)
on_help kind status a b c d e f (inr is) ends = subst (λ k. EndsOn k status a b c d e f) (sym is) (subst (λ k. ShowsHelp (k ∷ []) status a b e f) is ends)

pub on_others : (kind : ErrorKind) (status : ℕ) (a b c d e f : Option (List ℕ)) → kind ≢ kinds.OutOfMemory → kind ≢ kinds.DisplayHelp → kind ≢ kinds.DisplayVersion
    → status ≡ MISUSE → Keeps a b → Keeps c d → EndsOn kind status a b c d e f
on_others kinds.OutOfMemory status a b c d e f no_memory no_help no_version is input output = absurd (no_memory refl)
on_others kinds.DisplayHelp status a b c d e f no_memory no_help no_version is input output = absurd (no_help refl)
on_others kinds.DisplayVersion status a b c d e f no_memory no_help no_version is input output = absurd (no_version refl)
on_others kind status a b c d e f no_memory no_help no_version is input output = record {
  kind = kind;
  is_fault = inl refl;
  no_help = no_help;
  no_version = no_version;
  status_is = is;
  input = input;
  output = output;
}

-- where it reports, it says so
pub quiet_watched : (file : Option (Bor (List ℕ))) (bails reports : Bool) (a b : Option (List ℕ)) → (reports ≡ false → Keeps a b) → IsQuiet (asked.RunWatched file bails reports) a b
quiet_watched file bails true a b keeps = tt
quiet_watched file bails false a b keeps = keeps refl

-- where it rounds, it says of how many
quiet_csv : (words : Option Said) (said : CsvWords) (a b : Option (List ℕ)) → words ≡ Some (said_by (asked.Csv said)) → (said.rounds ≡ false → Keeps a b) → (rounds : Bool) → said.rounds ≡ rounds → Keeps a b ⊎ SaysMore words
quiet_csv words said a b asks quiet true is = inr (inr (inr (csv_said said, asks, is)))
quiet_csv words said a b asks quiet false is = inl (quiet is)

pub quiet_as : (words : Option Said) (read : Result Asked Error) (a b : Option (List ℕ)) → IfOk read (λ it. words ≡ Some (said_by it)) → IsQuietAs read a b
    → Keeps a b ⊎ SaysMore words
quiet_as words (Err error) a b asks quiet = inl quiet
quiet_as words (Ok (asked.RunWatched file bails true)) a b asks quiet = inr (inl (given_text file, bails, asks))
quiet_as words (Ok (asked.RunWatched file bails false)) a b asks quiet = inl quiet
quiet_as words (Ok (asked.RunAsCsv file bails true)) a b asks quiet = inr (inr (inl (given_text file, bails, asks)))
quiet_as words (Ok (asked.RunAsCsv file bails false)) a b asks quiet = inl quiet
quiet_as words (Ok (asked.Table separator)) a b asks quiet = inl quiet
quiet_as words (Ok (asked.Create file)) a b asks quiet = inl quiet
quiet_as words (Ok asked.Run) a b asks quiet = inl quiet
quiet_as words (Ok (asked.RunFile file)) a b asks quiet = inl quiet
quiet_as words (Ok (asked.Ask file questions)) a b asks quiet = inl quiet
quiet_as words (Ok (asked.Csv said)) a b asks quiet = quiet_csv words said a b asks quiet said.rounds refl
quiet_as words (Ok (asked.Dump file table omits_rows)) a b asks quiet = inl quiet
quiet_as words (Ok (asked.Explain refusal)) a b asks quiet = inl quiet
quiet_as words (Ok (asked.Serve file address connections)) a b asks quiet = inl quiet
