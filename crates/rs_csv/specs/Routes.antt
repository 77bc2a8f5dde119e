-- The routes of INSERTs: the least and the greatest measure of each, and the lines that define them.
use Rattle.std.specs.Prelude.{◌≡◌, ◌⊎◌, ℕ, ◌+◌, ◌<◌, ◌≤◌, List, [], ◌∷◌, ◌++◌, Contains, Option, Some, None, codes, min, max}
use Rattle.std.specs.FinMap as names
use Rattle.rs_facts.specs.Fact.{AreDistinct, Names}
use Rattle.rs_machine.specs.Request.{Asks, command}
use Rattle.rs_measure.specs.Measure.{measure_text}
use Rattle.rs_methods.specs.Position.{absolute}
use Rattle.rs_methods.specs.declared.position.Position.{Position}
use Rattle.rs_methods.specs.declared.position.Position.TheVariants as positions
use Rattle.rs_syntax.specs.Sound.{IsName}
use Rattle.rs_syntax.specs.Tree.{EventLocationTree, along, at_point, define_route}
use Rattle.rs_csv_lines.specs.Texts.{session_text}
use Rattle.rs_csv.specs.declared.routes.Extent.{Extent}

-- ---- measures

-- the place has this measure, in thousandths; a position by another method has none
abbrev pub HasMeasure : EventLocationTree → ℕ → Type 0
HasMeasure (along first last) k = (first ≡ absolute k) ⊎ (last ≡ absolute k)
HasMeasure (at_point position) k = position ≡ absolute k

-- an event: its route, and its place on it
abbrev pub Placed : Type 0
Placed = List ℕ × EventLocationTree

-- one of the events is on this route, and its place has this measure
abbrev pub IsMet : List Placed → List ℕ → ℕ → Type 0
IsMet [] route k = ⊥
IsMet (event ∷ events) route k = ((event.0 ≡ route) × HasMeasure event.1 k) ⊎ IsMet events route k

-- It is so, and no lesser number is.
pub record IsLeast (IsSo : ℕ → Type 0) (least : ℕ) : Type 0 where
  pub is_so : IsSo least
  pub below : (k : ℕ) → IsSo k → least ≤ k

-- It is so, and no greater number is.
pub record IsGreatest (IsSo : ℕ → Type 0) (greatest : ℕ) : Type 0 where
  pub is_so : IsSo greatest
  pub above : (k : ℕ) → IsSo k → k ≤ greatest

-- the ends of a route on which these are the least and the greatest measure: these, and where they are one, it and the next thousandth or the last
abbrev pub AreEndsOf : (least greatest : ℕ) → (start finish : ℕ) → Type 0
AreEndsOf least greatest start finish =
    ((least < greatest) × (start ≡ least) × (finish ≡ greatest))
    ⊎ ((least ≡ greatest) × (finish ≡ start + 1) × ((start ≡ least) ⊎ (finish ≡ least)))

-- ---- lines

-- Lines of a session, each with its LF: each defines the route of one of these names, from the least to the greatest measure that was met on it.
pub data DefineEach (session : ℕ) (IsMetOn : List ℕ → ℕ → Type 0) : List (List ℕ) → List ℕ → Type 0 where
  no_route : DefineEach session IsMetOn [] []
  one_route : {defined : List (List ℕ)} {bytes : List ℕ} (name line : List ℕ) (least greatest start finish : ℕ) → DefineEach session IsMetOn defined bytes
      → IsLeast (IsMetOn name) least → IsGreatest (IsMetOn name) greatest → AreEndsOf least greatest start finish → Asks line (command session (define_route name start finish))
      → DefineEach session IsMetOn (defined ++ name ∷ []) (bytes ++ line ++ 10 ∷ [])

-- There is one such line for each route on which a measure was met.
pub record DefineRoutes (session : ℕ) (IsMetOn : List ℕ → ℕ → Type 0) (bytes : List ℕ) : Type 0 where
  pub defined : List (List ℕ)
  pub once : AreDistinct defined
  pub each : (name : List ℕ) (k : ℕ) → IsMetOn name k → Contains defined name
  pub lines : DefineEach session IsMetOn defined bytes

-- the line that defines a route
abbrev pub route_line : ℕ → List ℕ → ℕ → ℕ → List ℕ
route_line session name start finish =
    session_text session ++ (codes " DEFINE ROUTE " ++ (name ++ (codes " FROM " ++ (measure_text start ++ (codes " TO " ++ measure_text finish)))))

-- The line, with its LF, that defines the route of this name is added, between the ends of one on which these are the least and the greatest measure.
pub record AddsRoute (session : ℕ) (name : List ℕ) (ends : ℕ × ℕ) (old new : List ℕ) : Type 0 where
  pub start : ℕ
  pub finish : ℕ
  pub between : ends.0 ≤ ends.1 → AreEndsOf ends.0 ends.1 start finish
  pub asks : IsName name → Asks (route_line session name start finish) (command session (define_route name start finish))
  pub grown : new ≡ old ++ route_line session name start finish ++ 10 ∷ []

-- such a line is added where a measure was met, and else nothing
abbrev pub PutsRoute : (session : ℕ) → (name : List ℕ) → Option (ℕ × ℕ) → (old new : List ℕ) → Type 0
PutsRoute session name (Some ends) old new = AddsRoute session name ends old new
PutsRoute session name None old new = new ≡ old

-- ---- what was met so far

-- the least and the greatest of the measures so far and of one position more, in thousandths; one by another method is no measure
abbrev pub reaching : Position → Option (ℕ × ℕ) → Option (ℕ × ℕ)
reaching (positions.Absolute met) (Some ends) = Some (min ends.0 met, max ends.1 met)
reaching (positions.Absolute met) None = Some (met, met)
reaching _ ends = ends

-- those of a route
abbrev pub ends_of : Option Extent → Option (ℕ × ℕ)
ends_of (Some extent) = extent.ends
ends_of None = None

abbrev pub ends_on : Names Extent → List ℕ → Option (ℕ × ℕ)
ends_on extents route = ends_of (names.get extents route)

-- the least and the greatest number that is so, where one is
abbrev pub AreExtremes : (ℕ → Type 0) → Option (ℕ × ℕ) → Type 0
AreExtremes IsSo (Some ends) = IsLeast IsSo ends.0 × IsGreatest IsSo ends.1
AreExtremes IsSo None = (k : ℕ) → ¬ IsSo k

-- The events were met: each route's extremes are those of their measures on it.
pub record HaveMet (extents : Option (Names Extent)) (events : List Placed) : Type 0 where
  pub met : Names Extent
  pub is : extents ≡ Some met
  pub named : (route : List ℕ) (k : ℕ) → IsMet events route k → IsName route
  pub extremes : (route : List ℕ) → AreExtremes (IsMet events route) (ends_on met route)

-- more of them are met
abbrev pub MeetsMore : Option (Names Extent) → Option (Names Extent) → List Placed → Type 0
MeetsMore extents now more = (events : List Placed) → HaveMet extents events → HaveMet now (events ++ more)
