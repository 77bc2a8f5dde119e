-- Lines of an input that are answered as CSV, one after another.
use Rattle.std.specs.Prelude.{◌≡◌, ◌≢◌, ℕ, Bool, List, [], ◌++◌, Option, Result, Ok, Err, IfSome, flat_map, ◌==◌}
use Rattle.std.specs.Io.KnownBytes.{Consumes}
use Rattle.std.specs.List.{AllByRecursion}
use Rattle.rs_csv_answers.specs.Answers.{AnswersAsCsv}
use Rattle.rs_csv_answers.specs.Counting.{AreCountsOf, CountsOne}
use Rattle.rs_csv_answers.specs.Turns.{AnswersEach, PutsAll, PutsOne, Text}
use Rattle.rs_csv_answers.specs.declared.lines.Answered.{Answered}
use Rattle.rs_csv_answers.specs.declared.lines.Ended.{Ended}
use Rattle.rs_csv_answers.specs.declared.lines.Ended.TheVariants.{CutLine, Refused, Whole}
use Rattle.rs_csv_answers.specs.declared.lines.Next.{Next}
use Rattle.rs_csv_answers.specs.declared.lines.Next.TheVariants as next
use Rattle.rs_machine.specs.Served.{Machine}
use Rattle.rs_machine.specs.Stream.{IsOneLine, with_feed}
use Rattle.rs_protocol.specs.Puts.{Puts}
use Rattle.rs_protocol.specs.declared.stream.Fault.{Fault}
use Rattle.rs_protocol.specs.declared.stream.Fault.TheVariants.{Read, Write}

-- what the machine answers to a line, as CSV
abbrev pub IsLineAnswered : List ℕ → Machine → Text → Machine → Type 0
IsLineAnswered line old answer new = AnswersAsCsv (λ (text : List ℕ). text) line old answer new

-- where it is known what was unread, all of it was told
abbrev pub IsAll : Option (List ℕ) → List ℕ → Type 0
IsAll unread told = IfSome unread (λ bytes. bytes ≡ told)

-- Lines were told, each with its LF, and then these bytes, which are no line yet.
pub record TellsLines (lines : List (List ℕ)) (rest : List ℕ) (unread unread_now : Option (List ℕ)) : Type 0 where
  pub told : List ℕ
  pub whole : told ≡ flat_map with_feed lines ++ rest
  pub each : AllByRecursion IsOneLine lines
  pub partial : IsOneLine rest
  pub consumed : Consumes unread unread_now told

-- One line is answered and counted, and its text is put whole, or a front of it with a fault.
pub record AnswersLine (line : List ℕ) (old : Machine) (counts : Answered) (result : Result Bool Fault) (counts_now : Answered) (new : Machine) (before after : Option (List ℕ)) : Type 0 where
  pub puts : PutsOne IsLineAnswered line old result new before after
  pub counted : CountsOne puts.answer counts counts_now

-- All lines that were told are answered and counted so, and their texts are put whole; after the last one these bytes were told.
pub record AnswersTold (rest : List ℕ) (unread unread_now : Option (List ℕ)) (old : Machine) (answered : Answered) (new : Machine) (before after : Option (List ℕ)) : Type 0 where
  pub lines : List (List ℕ)
  pub tells : TellsLines lines rest unread unread_now
  pub puts : PutsAll IsLineAnswered lines old (answered.refused == 0) new before after
  pub counted : AreCountsOf puts.answers answered

-- Lines are answered, and a front of their texts is put.
pub record StopsPutting (fault : Fault) (unread unread_now : Option (List ℕ)) (old new : Machine) (before after : Option (List ℕ)) : Type 0 where
  pub lines : List (List ℕ)
  pub some : lines ≢ []
  pub tells : TellsLines lines [] unread unread_now
  pub answers : List Text
  pub text : List ℕ
  pub each : AnswersEach IsLineAnswered old lines answers text new
  pub put : Puts {T = Answered} (Err fault) text before after

-- How the answering ends: with the input, after its last LF or within a line; at a refused line; or by a fault.
abbrev pub EndsAt : Ended → Answered → Option (List ℕ) → Option (List ℕ) → Machine → Machine → Option (List ℕ) → Option (List ℕ) → Type 0
EndsAt Whole answered unread unread_now old new before after =
    (ends : AnswersTold [] unread unread_now old answered new before after) × IsAll unread ends.tells.told
EndsAt CutLine answered unread unread_now old new before after =
    (rest : List ℕ) × (rest ≢ []) × (ends : AnswersTold rest unread unread_now old answered new before after) × IsAll unread ends.tells.told
EndsAt Refused answered unread unread_now old new before after = (answered.refused ≢ 0) × AnswersTold [] unread unread_now old answered new before after

abbrev pub StopsBy : Fault → Option (List ℕ) → Option (List ℕ) → Machine → Machine → Option (List ℕ) → Option (List ℕ) → Type 0
StopsBy Read unread unread_now old new before after =
    (then : Option (List ℕ)) × (answered : Answered) × AnswersTold [] unread then old answered new before after × ((bytes : List ℕ) × Consumes then unread_now bytes)
StopsBy Write unread unread_now old new before after = StopsPutting Write unread unread_now old new before after

abbrev pub EndsAsCsv : Result Answered Fault → Option (List ℕ) → Option (List ℕ) → Machine → Machine → Option (List ℕ) → Option (List ℕ) → Type 0
EndsAsCsv (Ok answered) unread unread_now old new before after = EndsAt answered.ended answered unread unread_now old new before after
EndsAsCsv (Err fault) unread unread_now old new before after = StopsBy fault unread unread_now old new before after

-- ---- the next line

-- A line was told, with its LF or without; the input has ended; or it could not be read.
abbrev pub Reads : Result Next Fault → List ℕ → Option (List ℕ) → Option (List ℕ) → Type 0
Reads (Ok next.Line) line unread unread_now = IsOneLine line × Consumes unread unread_now (with_feed line)
Reads (Ok next.Cut) line unread unread_now = IsOneLine line × (line ≢ []) × Consumes unread unread_now line × IsAll unread line
Reads (Ok next.End) line unread unread_now = Consumes unread unread_now [] × IsAll unread []
Reads (Err fault) line unread unread_now = (fault ≡ Read) × ((bytes : List ℕ) × Consumes unread unread_now bytes)
