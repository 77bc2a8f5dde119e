-- What a line is answered, as CSV.
use Rattle.std.specs.Prelude.{◌≡◌, ◌⊎◌, ℕ, List, ◌++◌, Result, MatchResult, flat_map}
use Rattle.rs_csv_answers.specs.Heads.{HasHead}
use Rattle.rs_csv_answers.specs.Records.{record_of}
use Rattle.rs_machine.specs.Answered.{Answer, AnswersLine}
use Rattle.rs_machine.specs.Request.{Asks, command}
use Rattle.rs_machine.specs.Served.{Machine, Reply, done, refused}
use Rattle.rs_machine.specs.State.{State}
use Rattle.rs_refusal.specs.declared.refusal.Refusal.{Refusal}
use Rattle.rs_refusal.specs.declared.refusal.Refusal.TheVariants.{OutOfMemory}
use Rattle.rs_syntax.specs.Tree.{CommandTree}

-- the header of what a line asks in a state
pub record HasHeadFor (state : State) (line head : List ℕ) : Type 0 where
  pub session : ℕ
  pub tree : CommandTree
  pub asks : Asks line (command session tree)
  pub has : HasHead state tree head

-- a reply as CSV: the header, and a record for each of its rows
abbrev pub IsCsvOf : State → List ℕ → Reply → List ℕ → Type 0
IsCsvOf state line (done rows count) text = (head : List ℕ) × HasHeadFor state line head × (text ≡ head ++ flat_map record_of rows)
IsCsvOf state line (refused why) text = ⊥

-- What the machine answers to a line, as CSV; or why it is refused, which may also be for want of memory.
pub record AnswersAsCsv {T : Type 0} (items : T → List ℕ) (line : List ℕ) (old : Machine) (result : Result T Refusal) (new : Machine) : Type 0 where
  pub given : Answer
  pub answered : AnswersLine old line given new
  pub says : MatchResult result (λ text. IsCsvOf old.state line given.reply (items text)) (λ why. (given.reply ≡ refused why) ⊎ (why ≡ OutOfMemory))
