-- Answers as CSV that are put one after another, where this is how one is answered.
use Rattle.std.specs.Prelude.{◌≡◌, ℕ, Bool, List, [], ◌∷◌, ◌++◌, Option, Result, Ok, Err, MatchResult, is_ok}
use Rattle.std.specs.Io.KnownBytes.{Appends}
use Rattle.std.specs.List.{list_all}
use Rattle.rs_machine.specs.Served.{Machine}
use Rattle.rs_protocol.specs.Puts.{Puts}
use Rattle.rs_protocol.specs.declared.stream.Fault.{Fault}
use Rattle.rs_refusal.specs.declared.refusal.Refusal.{Refusal}

-- a text, or a refusal
abbrev pub Text : Type 0
Text = Result (List ℕ) Refusal

-- the bytes of what was answered
abbrev pub text_result : {T : Type 0} → (T → List ℕ) → Result T Refusal → Text
text_result items (Ok text) = Ok (items text)
text_result items (Err why) = Err why

-- what is put of an answer: nothing where it is refused
abbrev pub text_of : Text → List ℕ
text_of (Ok text) = text
text_of (Err why) = []

-- whether none was refused
abbrev pub are_answered : List Text → Bool
are_answered answers = list_all is_ok answers

module _ (IsAnswered : List ℕ → Machine → Text → Machine → Type 0) where
  -- Each is answered by the machine that the one before left, and their texts are put one after another.
  abbrev pub AnswersEach : Machine → List (List ℕ) → List Text → List ℕ → Machine → Type 0
  AnswersEach old [] [] text new = (new ≡ old) × (text ≡ [])
  AnswersEach old (line ∷ lines) (answer ∷ answers) text new =
      (between : Machine) × (rest : List ℕ) × IsAnswered line old answer between × AnswersEach between lines answers rest new × (text ≡ text_of answer ++ rest)
  AnswersEach old [] (answer ∷ answers) text new = ⊥
  AnswersEach old (line ∷ lines) [] text new = ⊥

  -- One is answered, and its text is put whole, or a front of it with a fault.
  pub record PutsOne (line : List ℕ) (old : Machine) (result : Result Bool Fault) (new : Machine) (before after : Option (List ℕ)) : Type 0 where
    pub answer : Text
    pub is : IsAnswered line old answer new
    pub said : MatchResult result (λ done. done ≡ is_ok answer) (λ _. Unit {0})
    pub put : Puts result (text_of answer) before after

  -- All of them are answered, and their texts are put whole.
  pub record PutsAll (lines : List (List ℕ)) (old : Machine) (none_refused : Bool) (new : Machine) (before after : Option (List ℕ)) : Type 0 where
    pub answers : List Text
    pub text : List ℕ
    pub each : AnswersEach old lines answers text new
    pub said : none_refused ≡ are_answered answers
    pub put : Appends before after text

  -- Some of them are answered, of whose texts a front is put, and those after them are not asked.
  pub record PutsFront (lines : List (List ℕ)) (old : Machine) (fault : Fault) (new : Machine) (before after : Option (List ℕ)) : Type 0 where
    pub asked : List (List ℕ)
    pub left : List (List ℕ)
    pub whole : lines ≡ asked ++ left
    pub answers : List Text
    pub text : List ℕ
    pub each : AnswersEach old asked answers text new
    pub put : Puts {T = Bool} (Err fault) text before after
