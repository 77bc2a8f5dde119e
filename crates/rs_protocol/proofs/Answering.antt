-- What is answered to one line.
use Rattle.std.proofs.Common.{◌≡◌, ℕ, ◌⊎◌, inl, inr, List, take, Option, Some, Result, Ok, Err, refl, ap, ◌∙◌, subst}
use Rattle.rs_refusal.specs.declared.refusal.Refusal.{Refusal}
use Rattle.rs_refusal.specs.declared.refusal.Refusal.TheVariants.{OutOfMemory}
use Rattle.rs_measure.specs.FixedPoint.{number_of_digits}
use Rattle.rs_syntax.specs.Tree.{CommandTree}
use Rattle.rs_syntax.specs.Verdict.{Reads}
use Rattle.rs_machine.specs.Served.{Machine, Reply, refused}
use Rattle.rs_machine.specs.ReplyText.{reply_text}
use Rattle.rs_machine.specs.Request.{Asks, unreadable, no_command, command, BeginsWith, SessionReads, line_refusal, session_digits}
use Rattle.rs_machine.specs.Answered.{AnswersLine, answer}
use Rattle.rs_protocol.specs.declared.stream.Fault.{Fault}
use Rattle.rs_protocol.specs.Inner.{PutsLater, PutsAnswer, IsRequest}

-- a line that is no line of a session
pub answers_unreadable : (line : List ℕ) (refusal : Refusal) (machine : Machine) → line_refusal line ≡ Some refusal → AnswersLine machine line (answer 0 (refused refusal)) machine
answers_unreadable line refusal machine is_refused = inl (unreadable refusal, is_refused, (refl, refl))

begins_with : (line text : List ℕ) (session digits : ℕ) → IsRequest line text session digits → BeginsWith line session digits
begins_with line text session digits request = record {
  is_readable = request.is_readable;
  begins = subst (λ t. session_digits t ≡ Some digits) request.text_is request.session_begins.begins;
  session_is = request.session_begins.session_is ∙ ap (λ t. number_of_digits (take digits t)) request.text_is;
}

session_reads : (line text : List ℕ) (session digits : ℕ) (said : Result CommandTree Refusal) → IsRequest line text session digits → Reads text digits said → SessionReads line session said
session_reads line text session digits said request reads = record {
  digits = digits;
  begins = begins_with line text session digits request;
  reads = subst (λ t. Reads t digits said) request.text_is reads;
}

-- the line asks the command that its text says
pub request_asks : (line text : List ℕ) (session digits : ℕ) (tree : CommandTree) → IsRequest line text session digits → Reads text digits (Ok tree) → Asks line (command session tree)
request_asks line text session digits tree request reads = session_reads line text session digits (Ok tree) request reads

-- a line that is no command, or was not read
pub answers_refused : (line text : List ℕ) (session digits : ℕ) (refusal : Refusal) (machine : Machine) → IsRequest line text session digits
    → (refusal ≡ OutOfMemory) ⊎ Reads text digits (Err refusal) → AnswersLine machine line (answer session (refused refusal)) machine
answers_refused line text session digits refusal machine request why = elim why [
  | inl wants ↦ inr (record {
    session = session;
    digits = digits;
    begins = begins_with line text session digits request;
    given_is = ap (λ r. answer session (refused r)) wants;
    rests = refl;
  })
  | inr reads ↦ inl (no_command session refusal, session_reads line text session digits (Err refusal) request reads, (refl, refl))
]

-- what is answered to a line, whose reply is put
pub puts_answer : (T : Type 0) (result : Result T Fault) (line : List ℕ) (session : ℕ) (reply : Reply) (old new : Machine) (pending now : List ℕ) (a b : Option (List ℕ))
    → AnswersLine old line (answer session reply) new → PutsLater result (reply_text session reply) pending now a b → PutsAnswer result line old new pending now a b
puts_answer T result line session reply old new pending now a b answers puts = record { given = answer session reply; answered = answers; put = puts }
