-- What of the events that were found ends, and what comes.
use Rattle.std.specs.Prelude.{◌≡◌, ◌⊎◌, ℕ, ◌+◌, ◌-◌, min, max, Bool, ◌&&◌, nat_le, IsTrue, List, [], ◌∷◌, ◌++◌, filter, map, Contains, nat_lt, if◌then◌else◌}
use Rattle.std.specs.List.{AllZip}
use Rattle.rs_facts.proofs.Counting.{overlap}
use Rattle.rs_facts.proofs.Rows.{same_row}
use Rattle.rs_facts.specs.Runs.{Stretch, stretch}
use Rattle.rs_value.specs.declared.column.ColumnType.{ColumnType}
use Rattle.rs_value.specs.Row.{Row}
use Rattle.rs_versioned.specs.Events.{Event, SaysEvent, span_of}

-- those whose rows pass the test
abbrev pub passing : (Row → Bool) → List Event → List Event
passing test events = filter (λ one. test one.row) events

-- where the cells say events, these are the cells and the spans of those that pass the test
pub record Picks (types : List ColumnType) (test : Row → Bool) (found cells : List (List ℕ)) (spans : List Stretch) : Type 0 where
  pub say : (events : List Event) → AllZip (SaysEvent types) found events → AllZip (SaysEvent types) cells (passing test events)
  pub are : (events : List Event) → AllZip (SaysEvent types) found events → spans ≡ map span_of (passing test events)

-- the cells say no events
pub record SayNone (types : List ColumnType) (cells : List (List ℕ)) : Type 0 where
  pub none : (events : List Event) → AllZip (SaysEvent types) cells events → ⊥

-- ---- a span and those that it joins

-- the span holds all along the other
abbrev pub covers : Stretch → Stretch → Bool
covers other span = nat_le span.lo other.lo && nat_le other.hi span.hi

abbrev pub lowest : ℕ → List Stretch → ℕ
lowest lo [] = lo
lowest lo (span ∷ spans) = lowest (min lo span.lo) spans

abbrev pub highest : ℕ → List Stretch → ℕ
highest hi [] = hi
highest hi (span ∷ spans) = highest (max hi span.hi) spans

-- the span, as wide as it and the others together
abbrev pub wide : Stretch → List Stretch → Stretch
wide span spans = stretch (lowest span.lo spans) (highest span.hi spans) span.row

-- how many thousandths from lo on and below hi the spans have, added up
abbrev pub shared_by : ℕ → ℕ → List Stretch → ℕ
shared_by lo hi [] = 0
shared_by lo hi (span ∷ spans) = overlap lo hi span.lo span.hi + shared_by lo hi spans

-- one of the spans holds all along this one: nothing ends, nothing comes, and nothing is new
pub record IsHeld (span : Stretch) (met : List Event) (gone : List (List ℕ)) (come : List Stretch) (count : ℕ) : Type 0 where
  pub one : Stretch
  pub among : Contains (map span_of met) one
  pub covered : IsTrue (covers span one)
  pub none_gone : gone ≡ []
  pub none_come : come ≡ []
  pub no_new : count ≡ 0

-- the events end, the wide span comes, and what the span has not in common with them is new
pub record IsWidened (types : List ColumnType) (span : Stretch) (met : List Event) (gone : List (List ℕ)) (come : List Stretch) (count : ℕ) : Type 0 where
  pub say : AllZip (SaysEvent types) gone met
  pub is : come ≡ wide span (map span_of met) ∷ []
  pub counted : count ≡ (span.hi - span.lo) - shared_by span.lo span.hi (map span_of met)

-- where the cells say events, the span is put beside those of its row
pub record Joins (types : List ColumnType) (span : Stretch) (found gone : List (List ℕ)) (come : List Stretch) (count : ℕ) : Type 0 where
  pub each : (events : List Event) → AllZip (SaysEvent types) found events
      → IsHeld span (passing (λ other. same_row other span.row) events) gone come count
      ⊎ IsWidened types span (passing (λ other. same_row other span.row) events) gone come count

-- ---- spans that a stretch is taken out of

-- what lies before a thousandth, and what from a thousandth on
abbrev pub front_of : ℕ → Stretch → List Stretch
front_of lo span = if nat_lt span.lo lo then stretch span.lo (min span.hi lo) span.row ∷ [] else []

abbrev pub back_of : ℕ → Stretch → List Stretch
back_of hi span = if nat_lt hi span.hi then stretch (max span.lo hi) span.hi span.row ∷ [] else []

-- what lies outside a stretch
abbrev pub outside : ℕ → ℕ → Stretch → List Stretch
outside lo hi span = front_of lo span ++ back_of hi span

-- what of the spans lies outside of it
abbrev pub outside_all : ℕ → ℕ → List Stretch → List Stretch
outside_all lo hi [] = []
outside_all lo hi (span ∷ spans) = outside lo hi span ++ outside_all lo hi spans

-- where the cells say events, those whose rows go end, what of them lies outside comes, and what lies inside is counted
pub record Takes (types : List ColumnType) (lo hi : ℕ) (goes : Row → Bool) (found gone : List (List ℕ)) (come : List Stretch) (count : ℕ) : Type 0 where
  pub say : (events : List Event) → AllZip (SaysEvent types) found events → AllZip (SaysEvent types) gone (passing goes events)
  pub is : (events : List Event) → AllZip (SaysEvent types) found events → come ≡ outside_all lo hi (map span_of (passing goes events))
  pub counted : (events : List Event) → AllZip (SaysEvent types) found events → count ≡ shared_by lo hi (map span_of (passing goes events))
