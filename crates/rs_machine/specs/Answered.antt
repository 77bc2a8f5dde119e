-- A run of the machine over a list of lines, and the bytes of its replies.
--
-- `Served` is said of a command, `Replies` of a request, `AnswersLine` of a line, `Answered` of lines one after another.
use Rattle.std.specs.Prelude.{◌≡◌, ℕ, ◌⊎◌, List, [], ◌∷◌, flat_map}
use Rattle.rs_refusal.specs.declared.refusal.Refusal.TheVariants.{OutOfMemory}
use Rattle.rs_machine.specs.Served.{Machine, Reply, refused, Served}
use Rattle.rs_machine.specs.Request.{Request, unreadable, no_command, command, Asks, BeginsWith}
use Rattle.rs_machine.specs.ReplyText.{reply_text}

-- a reply and the session that it is answered under
pub record Answer : Type 0 where
  pub session : ℕ
  pub reply : Reply

abbrev pub answer : ℕ → Reply → Answer
answer session reply = record { session = session; reply = reply }

-- What is answered to a request. A line that is no line of a session is answered under session 0.
abbrev pub Replies : Machine → Request → Answer → Machine → Type 0
Replies old (unreadable refusal) given new = (given ≡ answer 0 (refused refusal)) × (new ≡ old)
Replies old (no_command session refusal) given new = (given ≡ answer session (refused refusal)) × (new ≡ old)
Replies old (command session tree) given new = (given.session ≡ session) × Served old session tree given.reply new

-- Memory was wanting in reading a session's line: that is answered, and nothing has changed.
pub record WantsMemory (old : Machine) (line : List ℕ) (given : Answer) (new : Machine) : Type 0 where
  pub session : ℕ
  pub digits : ℕ
  pub begins : BeginsWith line session digits
  pub given_is : given ≡ answer session (refused OutOfMemory)
  pub rests : new ≡ old

-- what is answered to a line
abbrev pub AnswersLine : Machine → List ℕ → Answer → Machine → Type 0
AnswersLine old line given new = ((request : Request) × Asks line request × Replies old request given new) ⊎ WantsMemory old line given new

-- Line by line, each from the machine that the one before left.
abbrev pub Answered : Machine → List (List ℕ) → List Answer → Machine → Type 0
Answered old [] [] new = new ≡ old
Answered old (line ∷ lines) (given ∷ more) new = (between : Machine) × AnswersLine old line given between × Answered between lines more new
Answered old [] (given ∷ more) new = ⊥
Answered old (line ∷ lines) [] new = ⊥

-- the replies' lines, one after another
abbrev pub answers_text : List Answer → List ℕ
answers_text answers = flat_map (λ given. reply_text given.session given.reply) answers
