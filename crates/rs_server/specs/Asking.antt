-- What is written where questions are asked of a file, as CSV.
use Rattle.std.specs.Prelude.{◌≡◌, ◌⊎◌, ℕ, Bool, List, Option, Result, Ok, Err, true, false}
use Rattle.rs_csv_answers.specs.Questions.{AnswersAll, AnswersFront}
use Rattle.rs_disk.specs.Content.{Content}
use Rattle.rs_engine.specs.Calls.{IsLeftOpen, IsNoFileOfAny, WantsOpening}
use Rattle.rs_engine.specs.Standing.{Stands}
use Rattle.rs_machine.specs.Served.{Machine}
use Rattle.rs_protocol.specs.declared.stream.Fault.{Fault}
use Rattle.rs_refusal.specs.declared.refusal.Refusal.{Refusal}
use Rattle.rs_refusal.specs.declared.refusal.Refusal.TheVariants as refusal
use Rattle.rs_server.specs.Saying.{SaysFront, refusal_line}
use Rattle.rs_server.specs.declared.report.TheConstants.{FAILED, SUCCESS}

-- the exit status: none was refused, some were, or the output failed
abbrev pub status_of_answers : Result Bool Fault → ℕ
status_of_answers (Ok true) = SUCCESS
status_of_answers (Ok false) = FAILED
status_of_answers (Err fault) = FAILED

-- The disk stands for a state, in which all questions were answered or refused, one after another, and the answers were put.
pub record AsksDisk (limit : ℕ) (content : Content) (questions : List (List ℕ)) (none_refused : Bool) (before after : Option (List ℕ)) : Type 0 where
  pub first : Machine
  pub stood : Stands limit content first.state
  pub last : Machine
  pub answers : AnswersAll questions first none_refused last before after

-- the output failed, where a front of the answers was put
pub record StopsAsking (limit : ℕ) (content : Content) (questions : List (List ℕ)) (before after : Option (List ℕ)) : Type 0 where
  pub first : Machine
  pub stood : Stands limit content first.state
  pub fault : Fault
  pub last : Machine
  pub answers : AnswersFront questions first fault last before after

-- The file was refused, which the errors stream says, and nothing was put. It is damaged only where the disk is a file of no state, closed or
-- not, and was not closed only where it is a file of version 1 of some state and its flag is set.
pub record RefusesToAsk (limit : ℕ) (content : Content) (before after errors errors_now : Option (List ℕ)) : Type 0 where
  pub why : Refusal
  pub wants : WantsOpening why
  pub damaged : why ≡ refusal.DamagedFile → IsNoFileOfAny limit content
  pub left_open : why ≡ refusal.FileNotClosed → IsLeftOpen limit content
  pub kept : after ≡ before
  pub said : SaysFront (refusal_line why) errors errors_now

abbrev pub FailsToAsk : ℕ → Content → List (List ℕ) → Option (List ℕ) → Option (List ℕ) → Option (List ℕ) → Option (List ℕ) → Type 0
FailsToAsk limit content questions before after errors errors_now =
    RefusesToAsk limit content before after errors errors_now ⊎ AsksDisk limit content questions false before after ⊎ StopsAsking limit content questions before after
