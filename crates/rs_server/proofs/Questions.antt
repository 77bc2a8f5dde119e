-- How it ends where questions were asked of a file, by how each was answered, and of a look.
use Rattle.std.proofs.Common.{◌≡◌, ◌⊎◌, ℕ, Bool, true, false, inl, inr, List, Option, Result, Ok, Err, refl, subst, sym}
use Rattle.std.proofs.KnownBytes.{Keeps-refl, Keeps-trans}
use Rattle.std.specs.Io.KnownBytes.{Keeps}
use Rattle.std.specs.Prelude.{IfOk}
use Rattle.rs_csv_answers.specs.Questions.{AnswersQuestions}
use Rattle.rs_disk.specs.Content.{Content}
use Rattle.rs_disk.specs.declared.disk.Disk as disk
use Rattle.rs_engine.specs.Calls.{IsLeftOpen, IsNoFileOfAny}
use Rattle.rs_engine.specs.Standing.{Stands}
use Rattle.rs_machine.specs.Served.{Machine}
use Rattle.rs_machine.specs.State.{State}
use Rattle.rs_protocol.specs.declared.stream.Fault.{Fault}
use Rattle.rs_server.specs.Asking.{AsksDisk, FailsToAsk, status_of_answers}
use Rattle.rs_server.specs.Opened.{Asks, AsksOpened}
use Rattle.rs_server.specs.Saying.{SaysFront, failure_line}
use Rattle.rs_server.specs.declared.report.Failure.{Failure}
use Rattle.rs_server.specs.declared.report.TheConstants.{FAILED, SUCCESS}

-- ---- by how each was answered

pub is_one : (result : Result Bool Fault) → (status_of_answers result ≡ SUCCESS) ⊎ (status_of_answers result ≡ FAILED)
is_one (Ok true) = inl refl
is_one (Ok false) = inr refl
is_one (Err fault) = inr refl

pub quiet_after : (result : Result Bool Fault) (a b c : Option (List ℕ)) → (result ≡ Ok true → Keeps a b) → IfOk result (λ _. Keeps b c) → status_of_answers result ≡ SUCCESS → Keeps a c
quiet_after (Ok true) a b c first then done = Keeps-trans a b c (first refl) then
quiet_after (Ok false) a b c first then done = let wrong : FAILED ≡ SUCCESS = done in cc
quiet_after (Err fault) a b c first then done = let wrong : FAILED ≡ SUCCESS = done in cc

pub no_success : FAILED ≡ SUCCESS → ⊥
no_success wrong = cc

no_failure : SUCCESS ≡ FAILED → ⊥
no_failure wrong = cc

module _ (limit : ℕ) (content : Content) (questions : List (List ℕ)) (a b : Option (List ℕ)) (first last : Machine) (stood : Stands limit content first.state) where
  pub asked_all : (result : Result Bool Fault) → AnswersQuestions questions first result last a b → status_of_answers result ≡ SUCCESS → AsksDisk limit content questions true a b
  asked_all (Ok true) answers done = record { first = first; stood = stood; last = last; answers = answers }
  asked_all (Ok false) answers done = absurd (no_success done)
  asked_all (Err fault) answers done = absurd (no_success done)

  pub asked_some : (e f : Option (List ℕ)) (result : Result Bool Fault) → AnswersQuestions questions first result last a b → status_of_answers result ≡ FAILED
      → FailsToAsk limit content questions a b e f
  asked_some e f (Ok true) answers failed = absurd (no_failure failed)
  asked_some e f (Ok false) answers failed = inr (inl (record { first = first; stood = stood; last = last; answers = answers }))
  asked_some e f (Err fault) answers failed = inr (inr (record { first = first; stood = stood; fault = fault; last = last; answers = answers }))

-- ---- what was asked of a look was asked of the file

module _ (limit : ℕ) (content look : Content) (was : (state : State) → Stands limit look state → Stands limit content state) (questions : List (List ℕ)) (a b : Option (List ℕ)) where
  pub asks_was : (none_refused : Bool) → AsksDisk limit look questions none_refused a b → AsksDisk limit content questions none_refused a b
  asks_was none_refused asks = record { first = asks.first; stood = was asks.first.state asks.stood; last = asks.last; answers = asks.answers }

  pub fails_was : (e f : Option (List ℕ)) → (IsLeftOpen limit look → IsLeftOpen limit content) → (IsNoFileOfAny limit look → IsNoFileOfAny limit content)
      → FailsToAsk limit look questions a b e f → FailsToAsk limit content questions a b e f
  fails_was e f left none (inl refuses) = inl (record {
    why = refuses.why;
    wants = refuses.wants;
    damaged = λ is. none (refuses.damaged is);
    left_open = λ is. left (refuses.left_open is);
    kept = refuses.kept;
    said = refuses.said;
  })
  fails_was e f left none (inr (inl asks)) = inr (inl (asks_was false asks))
  fails_was e f left none (inr (inr stops)) = inr (inr (record {
    first = stops.first;
    stood = was stops.first.state stops.stood;
    fault = stops.fault;
    last = stops.last;
    answers = stops.answers;
  }))

-- ---- by what opening it gave

module _ {D : Type 0} (d : disk.Ghosts D) (questions : List (List ℕ)) where
  pub asks_disk : (a b e f : Option (List ℕ)) (opened : Result D Failure) (one : D) (status : ℕ) → opened ≡ Ok one → Asks d questions one status a b e f
      → AsksOpened d questions opened status a b e f
  asks_disk a b e f opened one status is asks = subst (λ (result : Result D Failure). AsksOpened d questions result status a b e f) (sym is) asks

  pub asks_none : (a e f : Option (List ℕ)) (opened : Result D Failure) (failure : Failure) (status : ℕ) → opened ≡ Err failure → status ≡ FAILED
      → SaysFront (failure_line failure) e f → AsksOpened d questions opened status a a e f
  asks_none a e f opened failure status is failed says =
      subst (λ (result : Result D Failure). AsksOpened d questions result status a a e f) (sym is) (failed, Keeps-refl a, says)
