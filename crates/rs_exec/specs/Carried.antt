-- What pieces of an alignment carry of rows on some routes, gathered piece by piece.
use Rattle.std.specs.Prelude.{◌≡◌, ℕ, ◌==◌, Bool, true, false, ◌&&◌, nat_lt, List, [], ◌∷◌, map, length, Vec, if◌then◌else◌}
use Rattle.std.specs.List.{AllByRecursion, list_any}
use Rattle.std.specs.declared.alloc.Global.{Global}
use Rattle.rs_coalesce.specs.Joined.{AreJoined}
use Rattle.rs_facts.specs.declared.fact.Span.{Span}
use Rattle.rs_facts.specs.Fact.{Places, none}
use Rattle.rs_facts.specs.Operators.{merged}
use Rattle.rs_facts.specs.Runs.{Stretch}
use Rattle.rs_facts.specs.Spans.{seen, places_of, ArePlaced}
use Rattle.rs_plan.specs.declared.plan.PlannedPiece.{PlannedPiece}
use Rattle.rs_sweep.specs.Lists.{AreSorted, AreWide}
use Rattle.rs_exec.specs.declared.carrying.Sources.{Sources}
use Rattle.rs_exec.specs.Meaning.{goes_forwards, transformed}
use Rattle.rs_exec.specs.Routes.{numbers_of, list_of}

-- some of the span lies from the one on and below the other
abbrev pub meets : ℕ → ℕ → Stretch → Bool
meets from to span = nat_lt span.lo to && nat_lt from span.hi

-- ---- the routes from which pieces carry

abbrev pub is_one_of : List ℕ → ℕ → Bool
is_one_of numbers number = list_any (λ other. number == other) numbers

-- a piece that leads onto the route is of one of the sources
abbrev pub IsLed : List ℕ → ℕ → PlannedPiece → Type 0
IsLed sources route piece = piece.onto_route.number ≡ route → is_one_of sources piece.from_route.number ≡ true

-- each piece that leads onto one of the routes is of one of the sources
abbrev pub AreSourcesOf : List ℕ → List ℕ → List PlannedPiece → Type 0
AreSourcesOf routes sources pieces = AllByRecursion (λ piece. is_one_of routes piece.onto_route.number ≡ true → is_one_of sources piece.from_route.number ≡ true) pieces

-- no two of the numbers are the same
abbrev pub AreApart : List ℕ → Type 0
AreApart [] = Unit {0}
AreApart (number ∷ numbers) = (is_one_of numbers number ≡ false) × AreApart numbers

-- ---- what they carry

-- the rows that were given for the route of a number
abbrev pub given_on : List ℕ → List (Vec Span Global) → ℕ → Places
given_on [] rows route k = none
given_on (number ∷ numbers) [] route k = none
given_on (number ∷ numbers) (each ∷ rows) route k = if route == number then places_of (map seen each.items) k else given_on numbers rows route k

abbrev pub rows_given : Sources → ℕ → Places
rows_given sources = given_on (numbers_of sources.routes) (list_of sources.rows.now)

-- all the rows that were given have so many columns
abbrev pub AreAllWide : ℕ → List (Vec Span Global) → Type 0
AreAllWide width rows = AllByRecursion (λ each. AreWide width (map seen each.items)) rows

-- pieces go forwards, and there are rows of the kind for each of the routes
pub record CanCarry (sources : Sources) : Type 0 where
  pub forwards : AllByRecursion (λ piece. goes_forwards piece ≡ true) sources.pieces.now
  pub long : length (numbers_of sources.routes) ≡ length (list_of sources.rows.now)
  pub placed : AllByRecursion (λ each. ArePlaced sources.kind (map seen each.items)) (list_of sources.rows.now)

-- Beside the rows that were gathered there are now those that are added; all are of the kind and as wide as those that
-- were given, if those before were.
pub record AreGathered (sources : Sources) (added : Places) (old new : List Stretch) : Type 0 where
  pub means : (k : ℕ) → places_of new k ≡ merged (places_of old k) (added k)
  pub placed : ArePlaced sources.kind old → ArePlaced sources.kind new
  pub wide : (width : ℕ) → AreAllWide width (list_of sources.rows.now) → AreWide width old → AreWide width new

-- the rows are what the pieces carry onto the route
pub record IsCarried (sources : Sources) (route : ℕ) (rows : Vec Span Global) : Type 0 where
  pub means : (k : ℕ) → places_of (map seen rows.items) k ≡ transformed sources.pieces.now (rows_given sources) route k
  pub sorted : AreSorted (map seen rows.items)
  pub placed : ArePlaced sources.kind (map seen rows.items)
  pub wide : (width : ℕ) → AreAllWide width (list_of sources.rows.now) → AreWide width (map seen rows.items)
  pub joined : AreJoined sources.kind (map seen rows.items)
