-- Why it stops.
use Rattle.rs_csv.specs.declared.filter.Stop.{Stop}
use Rattle.rs_csv.specs.declared.filter.Stop.TheVariants as stops

-- for want of memory, or for a fault of a stream
abbrev pub IsFailure : Stop → Type 0
IsFailure stops.OutOfMemory = Unit {0}
IsFailure (stops.Stream fault) = Unit {0}
IsFailure _ = ⊥

-- once the input is read: for a failure, or for what the header lacks
abbrev pub IsMidway : Stop → Type 0
IsMidway stops.NoTable = ⊥
IsMidway (stops.Refused refusal) = ⊥
IsMidway stops.NoScale = ⊥
IsMidway stops.NoNumber = ⊥
IsMidway _ = Unit {0}

-- for the words, which the input has no part in
abbrev pub IsOfWords : Stop → Type 0
IsOfWords stop = ¬ IsMidway stop
