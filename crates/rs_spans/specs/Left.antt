-- What a removal leaves of single spans.
use Rattle.std.specs.Prelude.{ℕ, ◌+◌, min, max, Bool, nat_lt, List, [], ◌∷◌, ◌++◌, if◌then◌else◌}
use Rattle.rs_value.specs.Row.{Row}
use Rattle.rs_facts.specs.Runs.{Stretch, stretch}
use Rattle.rs_facts.proofs.Counting.{overlap}

-- what lies before a thousandth, and what from a thousandth on
abbrev pub front_of : ℕ → Stretch → List Stretch
front_of lo span = if nat_lt span.lo lo then stretch span.lo (min span.hi lo) span.row ∷ [] else []

abbrev pub back_of : ℕ → Stretch → List Stretch
back_of hi span = if nat_lt hi span.hi then stretch (max span.lo hi) span.hi span.row ∷ [] else []

-- what lies outside a stretch
abbrev pub outside : ℕ → ℕ → Stretch → List Stretch
outside lo hi span = front_of lo span ++ back_of hi span

-- what is left of a span once the rows that go left the stretch
abbrev pub left_of : ℕ → ℕ → (Row → Bool) → Stretch → List Stretch
left_of lo hi goes span = if goes span.row then outside lo hi span else span ∷ []

abbrev pub left_of_all : ℕ → ℕ → (Row → Bool) → List Stretch → List Stretch
left_of_all lo hi goes [] = []
left_of_all lo hi goes (span ∷ spans) = left_of lo hi goes span ++ left_of_all lo hi goes spans

-- how many facts of a span go
abbrev pub gone_of : ℕ → ℕ → (Row → Bool) → Stretch → ℕ
gone_of lo hi goes span = if goes span.row then overlap lo hi span.lo span.hi else 0

abbrev pub gone_of_all : ℕ → ℕ → (Row → Bool) → List Stretch → ℕ
gone_of_all lo hi goes [] = 0
gone_of_all lo hi goes (span ∷ spans) = gone_of lo hi goes span + gone_of_all lo hi goes spans
