-- What holds of facts, spans and runs, whatever they are.
use Rattle.std.specs.Prelude.{◌≡◌, ℕ, List, IsPermutation}
use Rattle.rs_value.specs.declared.column.Kind.{Kind}
use Rattle.rs_value.specs.Row.{Row}
use Rattle.rs_facts.specs.Fact.{Places, contains}
use Rattle.rs_facts.specs.Runs.{Stretch, AreRunsOf, LieWithin, runs_of}
use Rattle.rs_facts.specs.Spans.{places_of, AreKept, AreAllRunsOf}

-- places with the same rows at each thousandth are the same
abbrev pub SameRowsAreOneSet : Type 0
SameRowsAreOneSet = (a b : Places) → ((k : ℕ) (row : Row) → contains (a k) row ≡ contains (b k) row) → a ≡ b

-- spans mean the same in any order
abbrev pub SpansMeanASet : Type 0
SpansMeanASet = (a b : List Stretch) → IsPermutation a b → places_of a ≡ places_of b

-- what is all the maximal runs of places is one list
abbrev pub RunsAreOneList : Type 0
RunsAreOneList = (kind : Kind) (places : Places) (a b : List Stretch) → AreRunsOf kind places a → AreRunsOf kind places b → a ≡ b

-- the runs that begin at one thousandth after another are the maximal ones
abbrev pub GoingAlongGivesTheRuns : Type 0
GoingAlongGivesTheRuns = (kind : Kind) (places : Places) (from to : ℕ) → LieWithin from to places → AreRunsOf kind places (runs_of kind places from to)

-- the maximal runs of places mean these places
abbrev pub RunsMeanThePlaces : Type 0
RunsMeanThePlaces = (kind : Kind) (places : Places) (from to : ℕ) (runs : List Stretch) → LieWithin from to places → AreRunsOf kind places runs → places_of runs ≡ places

-- spans in the form in which they are kept are all the maximal runs of what they mean, each once
abbrev pub KeptSpansAreTheRuns : Type 0
KeptSpansAreTheRuns = (kind : Kind) (spans : List Stretch) → AreKept kind spans → AreAllRunsOf kind (places_of spans) spans
