-- The parts of a span outside what other spans take.
use Rattle.std.specs.Prelude.{◌≡◌, ℕ, ◌<◌, ◌≤◌, max, Bool, not, ◌&&◌, nat_lt, List, [], ◌∷◌, ◌++◌, length, if◌then◌else◌}
use Rattle.std.specs.List.{list_any}
use Rattle.std.specs.Ordering.{eq_by_cmp}
use Rattle.rs_value.specs.declared.column.Kind.{Kind}
use Rattle.rs_value.specs.Row.{Row, row_cmp}
use Rattle.rs_facts.specs.Fact.{contains}
use Rattle.rs_facts.specs.Insert.{within}
use Rattle.rs_facts.specs.Operators.{without}
use Rattle.rs_facts.specs.Runs.{Stretch, stretch}
use Rattle.rs_facts.specs.Spans.{places_of, ArePlaced}
use Rattle.rs_sweep.specs.Lists.{AreWide}
use Rattle.rs_sweep.specs.Taken.{key, is_met}
use Rattle.rs_sweep.specs.declared.parts.Part.{Part}
use Rattle.rs_sweep.specs.declared.taken.Rows.{Rows}

abbrev pub in_part : ℕ → Part → Bool
in_part k part = within part.lo part.hi k

-- some thousandths of the span and no others
pub record LiesIn (span : Stretch) (part : Part) : Type 0 where
  pub from : span.lo ≤ part.lo
  pub some : part.lo < part.hi
  pub upto : part.hi ≤ span.hi

-- from the one up to the other, unless it is empty
abbrev pub part_of : ℕ → ℕ → List Part
part_of lo hi = if nat_lt lo hi then record { lo = lo; hi = hi } ∷ [] else []

-- what stretches, in order, leave of a span from a thousandth on
abbrev pub walked : ℕ → Stretch → List Stretch → List Part
walked lo span [] = part_of lo span.hi
walked lo span (stretch ∷ stretches) = if is_met stretch span then part_of lo stretch.lo ++ walked (max lo stretch.hi) span stretches else part_of lo span.hi

-- what spans in a line leave of a span from a thousandth on, those of other rows left alone
abbrev pub left_along : ℕ → Stretch → List Stretch → List Part
left_along lo span [] = part_of lo span.hi
left_along lo span (other ∷ others) = if nat_lt other.lo span.hi then (if eq_by_cmp row_cmp other.row span.row then part_of lo other.lo ++ left_along (max lo other.hi) span others else left_along lo span others) else part_of lo span.hi

-- the same row
abbrev pub unchanged : Row → Row
unchanged row = row

-- a part of a span as a span of its own, its row changed
abbrev pub changed_part : (Row → Row) → Stretch → Part → Stretch
changed_part change span part = stretch part.lo part.hi (change span.row)

-- The spans that were added are the parts of these spans outside what is taken, their rows changed.
pub record IsCut (change : Row → Row) (rows : Rows) (taken spans old now : List Stretch) : Type 0 where
  pub added : List Stretch
  pub is : now ≡ old ++ added
  pub means : (row : Row) (k : ℕ) → contains (places_of added k) row ≡ list_any (λ span. within span.lo span.hi k && (not (contains (places_of taken k) (key rows span.row)) && eq_by_cmp row_cmp (change span.row) row)) spans
  pub placed : (kind : Kind) → ArePlaced kind spans → ArePlaced kind added
  pub wide : (m n : ℕ) → ((row : Row) → length row ≡ m → length (change row) ≡ n) → AreWide m spans → AreWide n added

-- what spans leave of others where these have their rows: the spans are these, cut
pub record IsLeft (right left now : List Stretch) : Type 0 where
  pub means : (k : ℕ) → places_of now k ≡ without (places_of left k) (places_of right k)
  pub placed : (kind : Kind) → ArePlaced kind left → ArePlaced kind now
  pub wide : (width : ℕ) → AreWide width left → AreWide width now
