-- Positions on a route: where a position lies, and how a measure is expressed by each method.
use Rattle.std.specs.Prelude.{◌≡◌, ℕ, ◌+◌, ◌-◌, ◌*◌, ◌/◌, ◌≤◌, ◌⊎◌, ◌&&◌, false, nat_le, if◌then◌else◌, List, [], ◌∷◌, ◌++◌, Contains, Option, Some, None, Result, Ok, Err, codes}
use Rattle.std.specs.declared.cmp.Ordering.{Ordering}
use Rattle.std.specs.Ordering.{nat_cmp, is_lt, ordering_then}
use Rattle.std.specs.Cmp.Lexicographic.{slice_cmp}
use Rattle.std.specs.Str.{bytes_eq}
use Rattle.rs_refusal.specs.declared.refusal.Refusal.{Refusal}
use Rattle.rs_refusal.specs.declared.refusal.Refusal.TheVariants.{NoSuchReferent, OutsideTheRoute}
use Rattle.rs_measure.specs.Measure.{measure_text}
use Rattle.rs_measure.specs.Part.{part_text}
use Rattle.rs_methods.specs.declared.position.Sign.{Sign}
use Rattle.rs_methods.specs.declared.position.Sign.TheVariants.{Plus, Minus}
use Rattle.rs_methods.specs.declared.position.Position.{Position}
use Rattle.rs_methods.specs.declared.position.Position.TheVariants as positions
use Rattle.rs_methods.specs.declared.position.Method.{Method}
use Rattle.rs_methods.specs.declared.position.Method.TheVariants as methods

-- A position as it is written: a measure; a referent's name with a measure beyond it or before it;
-- a part of the route in billionths.
pub data PositionExpression : Type 0 where
  absolute : ℕ → PositionExpression
  beyond : List ℕ → ℕ → PositionExpression
  before : List ℕ → ℕ → PositionExpression
  interpolative : ℕ → PositionExpression

abbrev pub relative_of : List ℕ → Sign → ℕ → PositionExpression
relative_of name Plus measure = beyond name measure
relative_of name Minus measure = before name measure

abbrev pub expression_of : Position → PositionExpression
expression_of (positions.Absolute measure) = absolute measure
expression_of (positions.Relative name sign measure) = relative_of name.bytes sign measure
expression_of (positions.Interpolative part) = interpolative part

-- The name of the referent that each route has at its start.
abbrev pub start_name : List ℕ
start_name = codes "START"

-- where the name stands in a list of referents, each a name and a measure
abbrev pub measure_of : List ℕ → List (List ℕ × ℕ) → Option ℕ
measure_of name [] = None
measure_of name (referent ∷ referents) = if bytes_eq referent.0 name then Some referent.1 else measure_of name referents

-- where a route's referent stands: START at the route's start, each other where the list says
abbrev pub referent_measure : ℕ → List (List ℕ × ℕ) → List ℕ → Option ℕ
referent_measure start referents name = if bytes_eq start_name name then Some start else measure_of name referents

-- a number from the route's start to its finish is a measure of the route, every other is refused (30)
abbrev pub on_route : ℕ → ℕ → ℕ → Result ℕ Refusal
on_route start finish number = if nat_le start number && nat_le number finish then Ok number else Err OutsideTheRoute

-- a measure beyond a referent, or before it; without the referent it is refused (25)
abbrev pub located_beyond : ℕ → ℕ → Option ℕ → ℕ → Result ℕ Refusal
located_beyond start finish None measure = Err NoSuchReferent
located_beyond start finish (Some referent) measure = on_route start finish (referent + measure)

abbrev pub located_before : ℕ → ℕ → Option ℕ → ℕ → Result ℕ Refusal
located_before start finish None measure = Err NoSuchReferent
located_before start finish (Some referent) measure = if nat_le measure referent then on_route start finish (referent - measure) else Err OutsideTheRoute

-- where a position lies on a route with its referents
abbrev pub located : ℕ → ℕ → List (List ℕ × ℕ) → PositionExpression → Result ℕ Refusal
located start finish referents (absolute measure) = on_route start finish measure
located start finish referents (beyond name measure) = located_beyond start finish (referent_measure start referents name) measure
located start finish referents (before name measure) = located_before start finish (referent_measure start referents name) measure
located start finish referents (interpolative part) = on_route start finish (start + part * (finish - start) / 1000000000)

-- Which of two referents is nearer below a measure, if both are not above it: the one with the
-- greater measure, at one measure the one with the lesser name.
unfoldable pub nearness_cmp : (List ℕ × ℕ) → (List ℕ × ℕ) → Ordering
nearness_cmp a b = ordering_then (nat_cmp b.1 a.1) (slice_cmp nat_cmp a.0 b.0)

-- the nearer of a referent not above k and another, which counts only where it is not above k
abbrev pub nearer : ℕ → (List ℕ × ℕ) → (List ℕ × ℕ) → List ℕ × ℕ
nearer k best other = if nat_le other.1 k && is_lt (nearness_cmp other best) then other else best

-- the nearest of a referent not above k and those of a list
abbrev pub nearest_from : ℕ → (List ℕ × ℕ) → List (List ℕ × ℕ) → List ℕ × ℕ
nearest_from k best [] = best
nearest_from k best (referent ∷ referents) = nearest_from k (nearer k best referent) referents

-- The nearest of START and a route's referents, one after another: it is the one that `IsNearest`
-- describes, where the route's start is not above k.
abbrev pub nearest : ℕ → List (List ℕ × ℕ) → ℕ → List ℕ × ℕ
nearest start referents k = nearest_from k (start_name, start) referents

-- A name that a position may be expressed by: START at the route's start, or a referent of the list.
abbrev pub IsCandidate : ℕ → List (List ℕ × ℕ) → List ℕ → ℕ → Type 0
IsCandidate start referents name measure = ((name ≡ start_name) × (measure ≡ start)) ⊎ Contains referents (name, measure)

-- The referent that k is expressed by: the greatest measure not above k, at that measure the least name.
pub record IsNearest (start : ℕ) (referents : List (List ℕ × ℕ)) (k : ℕ) (near : List ℕ × ℕ) : Type 0 where
  pub candidate : IsCandidate start referents near.0 near.1
  pub not_above : near.1 ≤ k
  pub greatest : (name : List ℕ) (measure : ℕ) → IsCandidate start referents name measure → measure ≤ k → measure ≤ near.1
  pub least_name : (name : List ℕ) → IsCandidate start referents name near.1 → is_lt (slice_cmp nat_cmp name near.0) ≡ false

-- a quotient rounded up: the least whole number that, times the divisor, is not below the number
abbrev pub ceiling : ℕ → ℕ → ℕ
ceiling number divisor = (number + (divisor - 1)) / divisor

-- how a measure k of a route is expressed by a method
abbrev pub expression_at : ℕ → ℕ → List (List ℕ × ℕ) → Method → ℕ → PositionExpression
expression_at start finish referents methods.Absolute k = absolute k
expression_at start finish referents methods.Relative k = beyond (nearest start referents k).0 (k - (nearest start referents k).1)
expression_at start finish referents methods.Interpolative k = interpolative (ceiling ((k - start) * 1000000000) (finish - start))

-- how a position is printed
abbrev pub expression_text : PositionExpression → List ℕ
expression_text (absolute measure) = measure_text measure
expression_text (beyond name measure) = codes "@" ++ name ++ codes "+" ++ measure_text measure
expression_text (before name measure) = codes "@" ++ name ++ codes "-" ++ measure_text measure
expression_text (interpolative part) = part_text part ++ codes "%"
