-- Runs of runs.
use Rattle.std.specs.Prelude.{◌≡◌, List}
use Rattle.rs_value.specs.declared.column.Kind.{Kind}
use Rattle.rs_facts.specs.Runs.{Stretch, AreRunsOf}
use Rattle.rs_facts.specs.Spans.{places_of}

-- the runs of what the runs of some spans mean are these runs
abbrev pub RunsOfRunsAreTheSame : Type 0
RunsOfRunsAreTheSame = (kind : Kind) (spans once twice : List Stretch) → AreRunsOf kind (places_of spans) once → AreRunsOf kind (places_of once) twice → twice ≡ once
