-- What is counted of answers: how many there are, how many of them are refused, and how many with each number.
use Rattle.std.specs.Prelude.{◌≡◌, ◌<◌, ◌==◌, ℕ, Bool, false, List, Ok, Err, is_ok, length, min, not, slice_index, slice_set}
use Rattle.std.specs.List.{count_by}
use Rattle.rs_csv_answers.specs.Turns.{Text}
use Rattle.rs_csv_answers.specs.declared.lines.Answered.{Answered}
use Rattle.rs_refusal.specs.Counts.{counted_on, last_count}
use Rattle.rs_refusal.specs.Refusal.{number_of}

-- so many, or the last number of a count
abbrev pub counted : ℕ → ℕ
counted many = min many last_count

-- whether an answer is a refusal, and whether one with this number
abbrev pub is_refused : Text → Bool
is_refused answer = not (is_ok answer)

abbrev pub is_refused_with : ℕ → Text → Bool
is_refused_with number (Ok text) = false
is_refused_with number (Err why) = number_of why == number

-- The counts are those of these answers.
pub record AreCountsOf (answers : List Text) (answered : Answered) : Type 0 where
  pub lines : answered.lines ≡ counted (length answers)
  pub refused : answered.refused ≡ counted (count_by is_refused answers)
  pub room : length answered.counts.by_number ≡ 256
  pub numbers : (number : ℕ) → number < 256 → slice_index answered.counts.by_number number ≡ counted (count_by (is_refused_with number) answers)

-- ---- one answer more

abbrev pub refused_on : Text → ℕ → ℕ
refused_on (Ok text) refused = refused
refused_on (Err why) refused = counted_on refused

abbrev pub numbers_on : Text → List ℕ → List ℕ
numbers_on (Ok text) counts = counts
numbers_on (Err why) counts = slice_set counts (number_of why) (counted_on (slice_index counts (number_of why)))

-- It is counted.
pub record CountsOne (answer : Text) (old new : Answered) : Type 0 where
  pub lines : new.lines ≡ counted_on old.lines
  pub refused : new.refused ≡ refused_on answer old.refused
  pub numbers : new.counts.by_number ≡ numbers_on answer old.counts.by_number
