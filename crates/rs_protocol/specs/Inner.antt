-- What the functions of this crate hand to one another.
use Rattle.std.specs.Prelude.{◌≡◌, ℕ, ◌<◌, List, [], ◌++◌, take, Option, None, Some, Result, Err, MatchResult}
use Rattle.std.specs.Io.KnownBytes.{Consumes}
use Rattle.rs_measure.specs.FixedPoint.{number_of_digits}
use Rattle.rs_machine.specs.Served.{Machine}
use Rattle.rs_machine.specs.ReplyText.{reply_text}
use Rattle.rs_machine.specs.Request.{without_return, line_refusal, session_digits}
use Rattle.rs_machine.specs.Answered.{Answer, Answered, AnswersLine, answers_text}
use Rattle.rs_machine.specs.Stream.{IsCutIntoLines}
use Rattle.rs_machine.specs.declared.limits.TheConstants.{SESSIONS}
use Rattle.rs_protocol.specs.declared.lines.TheConstants.{KEPT_BYTES}
use Rattle.rs_protocol.specs.declared.stream.Fault.{Fault}
use Rattle.rs_protocol.specs.declared.stream.Fault.TheVariants.{Write}
use Rattle.rs_protocol.specs.Ends.{WroteFront}
pub use Rattle.rs_protocol.specs.Puts.{PutsBut, Puts}

-- the text begins with the session, in so many digits
pub record HasSession (text : List ℕ) (session digits : ℕ) : Type 0 where
  pub begins : session_digits text ≡ Some digits
  pub session_is : session ≡ number_of_digits (take digits text)
  pub in_range : session < SESSIONS

-- the line is a session's, and its text begins with that session
pub record IsRequest (line text : List ℕ) (session digits : ℕ) : Type 0 where
  pub is_readable : line_refusal line ≡ None
  pub text_is : text ≡ without_return line
  pub session_begins : HasSession text session digits

-- The writer has grown by what was pending and the bytes, but for what is pending now; or by a front of them with a
-- fault.
abbrev pub PutsLater : {T : Type 0} → Result T Fault → List ℕ → List ℕ → List ℕ → Option (List ℕ) → Option (List ℕ) → Type 0
PutsLater result bytes pending now before after =
    MatchResult result (λ _. PutsBut (pending ++ bytes) now before after)
    (λ fault. Puts {T = Unit {0}} (Err fault) (pending ++ bytes) before after)

-- the line is answered, and its reply put into the writer or pending
pub record PutsAnswer {T : Type 0} (result : Result T Fault) (line : List ℕ) (old new : Machine) (pending now : List ℕ) (before after : Option (List ℕ)) : Type 0 where
  pub given : Answer
  pub answered : AnswersLine old line given new
  pub put : PutsLater result (reply_text given.session given.reply) pending now before after

-- Every line told is answered, and its reply is in the writer but for what is pending. Of the line begun the first bytes are kept.
pub record IsServed (kept pending told : List ℕ) (old new : Machine) (before after : Option (List ℕ)) : Type 0 where
  pub lines : List (List ℕ)
  pub rest : List ℕ
  pub cut : IsCutIntoLines told lines rest
  pub answers : List Answer
  pub answered : Answered old lines answers new
  pub put : PutsBut (answers_text answers) pending before after
  pub kept_is : kept ≡ take KEPT_BYTES rest

-- service goes on, or a write fault ends it
abbrev pub GoesOn : {T : Type 0} → Result T Fault → List ℕ → List ℕ → List ℕ → Machine → Machine → Option (List ℕ) → Option (List ℕ) → Type 0
GoesOn result kept pending told old new before after =
    MatchResult result (λ _. IsServed kept pending told old new before after)
    (λ fault. (fault ≡ Write) × WroteFront told old new before after)

-- what the reader told so far is served, and nothing is pending
pub record IsUnderWay (kept : List ℕ) (old new : Machine) (unread unread_now before after : Option (List ℕ)) : Type 0 where
  pub told : List ℕ
  pub consumed : Consumes unread unread_now told
  pub served : IsServed kept [] told old new before after
