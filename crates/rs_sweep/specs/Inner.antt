-- What the loops of this crate compute. No clause of another crate speaks of it.
use Rattle.std.specs.Prelude.{◌≡◌, ℕ, ◌+◌, ◌-◌, min, max, nat_lt, List, [], ◌∷◌, ◌++◌, if◌then◌else◌}
use Rattle.rs_value.specs.declared.column.Kind.{Kind}
use Rattle.rs_value.specs.Row.{Row}
use Rattle.rs_facts.specs.Operators.{chosen, overlaid}
use Rattle.rs_facts.specs.Runs.{Stretch, stretch}
use Rattle.rs_facts.specs.Spans.{places_of, ArePlaced}
use Rattle.rs_coalesce.specs.Joined.{AreJoined}
use Rattle.rs_sweep.specs.declared.laying.Side.{Side}
use Rattle.rs_sweep.specs.declared.laying.Side.TheVariants.{Left, Right}
use Rattle.rs_facts.specs.Query.{overlaid_kind}
use Rattle.rs_sweep.specs.Lists.{AreWide}

-- the part from lo on and below hi, if there is one
abbrev pub clipped : ℕ → ℕ → Stretch → Stretch
clipped lo hi span = stretch (max span.lo lo) (min span.hi hi) span.row

-- where an end is carried to, once it is cut to what lies between the two
abbrev pub moved : ℕ → ℕ → ℕ → ℕ → ℕ
moved from to onto place = onto + (min (max place from) to - from)

-- the part from one thousandth on and below another, if there is one, carried to another place
abbrev pub shifted : ℕ → ℕ → ℕ → Stretch → Stretch
shifted from to onto span = stretch (moved from to onto span.lo) (moved from to onto span.hi) span.row

-- the columns named of its row
abbrev pub in_columns : List ℕ → Stretch → Stretch
in_columns columns span = stretch span.lo span.hi (chosen columns span.row)

-- the row of a span of that side with a row of the other
abbrev pub joined_row : Side → Row → Row → Row
joined_row Left one other = one ++ other
joined_row Right one other = other ++ one

-- the same with the row of the other side first
abbrev pub joined_with : Side → Row → Row → Row
joined_with side other one = joined_row side one other

-- what a span has in common with one that begins within it
abbrev pub piece_of : Side → Stretch → Stretch → Stretch
piece_of side one other = stretch other.lo (min one.hi other.hi) (joined_row side one.row other.row)

-- a span over those, in order, that begin before it ends
abbrev pub laid : Side → Stretch → List Stretch → List Stretch
laid side one [] = []
laid side one (other ∷ others) = if nat_lt other.lo one.hi then piece_of side one other ∷ laid side one others else []

-- what spans of two lists have in common, in no order
pub record ArePieces (left right pieces : List Stretch) : Type 0 where
  pub means : (k : ℕ) → places_of pieces k ≡ overlaid (places_of left k) (places_of right k)
  pub placed : (a b : Kind) → ArePlaced a left → ArePlaced b right → ArePlaced (overlaid_kind a b) pieces
  pub wide : (m n : ℕ) → AreWide m left → AreWide n right → AreWide (m + n) pieces
  pub joined : (a b : Kind) (m n : ℕ) → AreWide m left → AreWide n right → AreJoined a left → AreJoined b right → AreJoined (overlaid_kind a b) pieces
