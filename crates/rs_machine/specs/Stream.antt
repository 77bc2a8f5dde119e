-- The stream of requests: bytes cut at each LF, and what was answered to them.
use Rattle.std.specs.Prelude.{◌≡◌, ◌≢◌, ℕ, List, [], ◌∷◌, ◌++◌, flat_map}
use Rattle.std.specs.List.{AllByRecursion}
use Rattle.rs_machine.specs.Served.{Machine}
use Rattle.rs_machine.specs.Answered.{Answer, Answered, answers_text}

abbrev pub LINE_FEED : ℕ
LINE_FEED = 10

-- no byte of it is an LF
abbrev pub IsOneLine : List ℕ → Type 0
IsOneLine bytes = AllByRecursion (λ byte. byte ≢ LINE_FEED) bytes

abbrev pub with_feed : List ℕ → List ℕ
with_feed line = line ++ LINE_FEED ∷ []

-- The bytes are these lines, each with its LF, and then the rest, which is no line yet.
pub record IsCutIntoLines (bytes : List ℕ) (lines : List (List ℕ)) (rest : List ℕ) : Type 0 where
  pub whole : bytes ≡ flat_map with_feed lines ++ rest
  pub each : AllByRecursion IsOneLine lines
  pub partial : IsOneLine rest

-- Every line of the bytes is answered, and the text of the replies is what was written.
pub record AllAnswered (old : Machine) (bytes rest written : List ℕ) (new : Machine) : Type 0 where
  pub lines : List (List ℕ)
  pub cut : IsCutIntoLines bytes lines rest
  pub answers : List Answer
  pub answered : Answered old lines answers new
  pub text : written ≡ answers_text answers
