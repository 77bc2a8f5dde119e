-- Questions that are asked one after another, and what is put of their answers.
use Rattle.std.specs.Prelude.{◌≡◌, ◌⊎◌, ℕ, Bool, List, ◌++◌, Option, Result, Err, MatchResult, codes}
use Rattle.rs_csv_answers.specs.Answers.{AnswersAsCsv}
use Rattle.rs_csv_answers.specs.Turns.{PutsAll, PutsFront, PutsOne, Text}
use Rattle.rs_machine.specs.Served.{Machine}
use Rattle.rs_protocol.specs.declared.stream.Fault.{Fault}
use Rattle.rs_refusal.specs.declared.refusal.Refusal.TheVariants.{OutOfMemory}

-- the line of session 0 that asks a question
abbrev pub line_of : List ℕ → List ℕ
line_of question = codes "0 " ++ question

-- What the machine answers to the line of a question, as CSV; or memory was wanting before it was read.
abbrev pub IsAnswered : List ℕ → Machine → Text → Machine → Type 0
IsAnswered question old answer new = AnswersAsCsv (λ (text : List ℕ). text) (line_of question) old answer new ⊎ ((answer ≡ Err OutOfMemory) × (new ≡ old))

abbrev pub AnswersQuestion : List ℕ → Machine → Result Bool Fault → Machine → Option (List ℕ) → Option (List ℕ) → Type 0
AnswersQuestion = PutsOne IsAnswered

abbrev pub AnswersAll : List (List ℕ) → Machine → Bool → Machine → Option (List ℕ) → Option (List ℕ) → Type 0
AnswersAll = PutsAll IsAnswered

abbrev pub AnswersFront : List (List ℕ) → Machine → Fault → Machine → Option (List ℕ) → Option (List ℕ) → Type 0
AnswersFront = PutsFront IsAnswered

abbrev pub AnswersQuestions : List (List ℕ) → Machine → Result Bool Fault → Machine → Option (List ℕ) → Option (List ℕ) → Type 0
AnswersQuestions questions old result new before after =
    MatchResult result (λ none_refused. AnswersAll questions old none_refused new before after) (λ fault. AnswersFront questions old fault new before after)
