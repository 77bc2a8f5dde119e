-- How a service ends, and what was answered by then.
use Rattle.std.specs.Prelude.{◌≡◌, ◌≢◌, ℕ, List, [], ◌++◌, Option, Result, Ok, Err}
use Rattle.std.specs.Io.KnownBytes.{Appends, IsAtEnd}
use Rattle.rs_machine.specs.Served.{Machine}
use Rattle.rs_machine.specs.Answered.{Answer, Answered, answers_text}
use Rattle.rs_machine.specs.Stream.{AllAnswered, IsCutIntoLines}
use Rattle.rs_protocol.specs.declared.stream.End.{End}
use Rattle.rs_protocol.specs.declared.stream.End.TheVariants.{Whole, CutLine}
use Rattle.rs_protocol.specs.declared.stream.Fault.{Fault}
use Rattle.rs_protocol.specs.declared.stream.Fault.TheVariants.{Read, Write}

-- Every line told is answered, and the writer has grown by the text of the answers. After the last LF the rest was told.
pub record WroteAll (told rest : List ℕ) (old new : Machine) (before after : Option (List ℕ)) : Type 0 where
  pub written : List ℕ
  pub put : Appends before after written
  pub answered : AllAnswered old told rest written new

-- The first lines of the bytes are answered, and of the text of their replies only a front was written: an end of it is lost.
pub record StoppedWriting (old : Machine) (bytes written : List ℕ) (new : Machine) : Type 0 where
  pub lines : List (List ℕ)
  pub later : List (List ℕ)
  pub rest : List ℕ
  pub cut : IsCutIntoLines bytes (lines ++ later) rest
  pub answers : List Answer
  pub answered : Answered old lines answers new
  pub lost : List ℕ
  pub some_lost : lost ≢ []
  pub text : answers_text answers ≡ written ++ lost

-- The writer has grown by a front of the answers, and what was accepted stands.
pub record WroteFront (told : List ℕ) (old new : Machine) (before after : Option (List ℕ)) : Type 0 where
  pub written : List ℕ
  pub put : Appends before after written
  pub stopped : StoppedWriting old told written new

-- What was told, what remains, the machine before and after, what the writer held before and after.
abbrev pub Ends : Result End Fault → List ℕ → Option (List ℕ) → Machine → Machine → Option (List ℕ) → Option (List ℕ) → Type 0
Ends (Ok Whole) told remaining old new before after = IsAtEnd remaining × WroteAll told [] old new before after
Ends (Ok CutLine) told remaining old new before after = IsAtEnd remaining × ((rest : List ℕ) × (rest ≢ []) × WroteAll told rest old new before after)
Ends (Err Read) told remaining old new before after = (rest : List ℕ) × WroteAll told rest old new before after
Ends (Err Write) told remaining old new before after = WroteFront told old new before after

-- A fault ended the service: of the bytes told by then all lines are answered, or the writer has a front of the answers.
abbrev pub EndedBy : Fault → List ℕ → Machine → Machine → Type 0
EndedBy Read told old new = (rest : List ℕ) × (written : List ℕ) × AllAnswered old told rest written new
EndedBy Write told old new = (written : List ℕ) × StoppedWriting old told written new

-- every line of the input is answered, and this is what was written
abbrev pub AnswersInput : List ℕ → List ℕ → Machine → Machine → Type 0
AnswersInput input written old new = (rest : List ℕ) × AllAnswered old input rest written new

-- the same of the first bytes of the input, which were told before a fault
abbrev pub StopsInInput : Fault → List ℕ → Machine → Machine → Type 0
StopsInInput fault input old new = (told : List ℕ) × (unread : List ℕ) × (input ≡ told ++ unread) × EndedBy fault told old new
