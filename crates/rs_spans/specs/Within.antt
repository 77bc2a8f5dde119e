-- Spans that lie within a stretch, as those of a route lie between its ends.
use Rattle.std.specs.Prelude.{ℕ, ◌≤◌, List}
use Rattle.std.specs.List.{AllByRecursion}
use Rattle.rs_facts.specs.Runs.{Stretch}

-- not before the one and not after the other
pub record LiesWithin (start finish : ℕ) (span : Stretch) : Type 0 where
  pub from : start ≤ span.lo
  pub upto : span.hi ≤ finish

abbrev pub AllLieWithin : ℕ → ℕ → List Stretch → Type 0
AllLieWithin start finish spans = AllByRecursion (LiesWithin start finish) spans
