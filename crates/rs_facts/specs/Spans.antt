-- What lists of spans mean, and in which form a table's spans on one route are kept.
use Rattle.std.specs.Prelude.{◌≡◌, ◌≢◌, ℕ, suc, ◌+◌, ◌<◌, ◌≤◌, ◌⊎◌, List, [], ◌∷◌, Contains}
use Rattle.std.specs.List.{AllByRecursion}
use Rattle.std.specs.declared.cmp.Ordering.TheVariants.{Less}
use Rattle.rs_value.specs.declared.column.Kind.{Kind}
use Rattle.rs_value.specs.declared.column.Kind.TheVariants.{Point, Line}
use Rattle.rs_value.specs.Row.{row_cmp}
use Rattle.rs_facts.specs.declared.fact.Span.{Span}
use Rattle.rs_facts.specs.Fact.{Places, none}
use Rattle.rs_facts.specs.Insert.{with_row}
use Rattle.rs_facts.specs.Runs.{Stretch, stretch, IsMaximalRun}

-- a span of the code as a row along a span
abbrev pub seen : Span → Stretch
seen span = stretch span.lo span.hi span.tuple

-- The meaning of a list of spans, in any order: each in turn is put into nothing.
abbrev pub places_of : List Stretch → Places
places_of [] = λ k. none
places_of (span ∷ spans) = with_row span.lo span.hi span.row (places_of spans)

-- a span of a line has a thousandth at least, and one of a point has just one
abbrev pub IsPlaced : Kind → Stretch → Type 0
IsPlaced Line span = span.lo < span.hi
IsPlaced Point span = span.hi ≡ suc span.lo

abbrev pub ArePlaced : Kind → List Stretch → Type 0
ArePlaced kind spans = AllByRecursion (IsPlaced kind) spans

-- how far apart two spans of one row are at the least: lines that touch are one, points never join
abbrev pub gap_of : Kind → ℕ
gap_of Line = 1
gap_of Point = 0

-- by row, and spans of one row by place, apart
abbrev pub Precedes : Kind → Stretch → Stretch → Type 0
Precedes kind a b = (row_cmp a.row b.row ≡ Less) ⊎ ((a.row ≡ b.row) × (a.hi + gap_of kind ≤ b.lo))

-- The form in which spans are kept: each maximal run once, by row and then by place.
abbrev pub AreKept : Kind → List Stretch → Type 0
AreKept kind [] = Unit {0}
AreKept kind (span ∷ spans) = IsPlaced kind span × AllByRecursion (Precedes kind span) spans × AreKept kind spans

-- each span once
abbrev pub AreOnce : List Stretch → Type 0
AreOnce [] = Unit {0}
AreOnce (span ∷ spans) = AllByRecursion (λ other. span ≢ other) spans × AreOnce spans

-- All the maximal runs of places and nothing else, each once, in whatever order.
pub record AreAllRunsOf (kind : Kind) (places : Places) (spans : List Stretch) : Type 0 where
  pub once : AreOnce spans
  pub maximal : AllByRecursion (IsMaximalRun kind places) spans
  pub complete : (run : Stretch) → IsMaximalRun kind places run → Contains spans run
