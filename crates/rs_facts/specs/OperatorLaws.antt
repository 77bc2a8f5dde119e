-- What the operators make, said of single rows.
use Rattle.std.specs.Prelude.{◌≡◌, ◌↔◌, ℕ, ◌+◌, ◌-◌, ◌<◌, ◌≤◌, not, ◌&&◌, ◌||◌, IsTrue, List, [], ◌++◌, Contains}
use Rattle.rs_value.specs.Row.{Row}
use Rattle.rs_facts.specs.Fact.{Name, RowSet, none, contains, Places, Facts}
use Rattle.rs_facts.specs.Insert.{within}
use Rattle.rs_facts.specs.Operators.{from_rows, mapped, nulls, chosen, dissolved, overlaid, covered, merged, without, windowed, carried, gapped}
use Rattle.rs_facts.specs.Query.{Piece, transformed}

-- a row of the first before a row of the second
pub record IsPair (a b : RowSet) (row : Row) : Type 0 where
  pub left : Row
  pub right : Row
  pub in_first : IsTrue (contains a left)
  pub in_second : IsTrue (contains b right)
  pub together : row ≡ left ++ right

-- what a row of the set becomes
pub record IsChanged (change : Row → Row) (rows : RowSet) (row : Row) : Type 0 where
  pub from : Row
  pub among : IsTrue (contains rows from)
  pub is : row ≡ change from

-- the row stands at a thousandth of the piece that is carried there
pub record IsCarried (from to onto : ℕ) (places : Places) (j : ℕ) (row : Row) : Type 0 where
  pub k : ℕ
  pub after : from ≤ k
  pub before : k < to
  pub among : IsTrue (contains (places k) row)
  pub there : j ≡ onto + (k - from)

-- one of the pieces carries the row to the thousandth of the route
pub record IsTransformed (pieces : List Piece) (facts : Facts) (route : Name) (j : ℕ) (row : Row) : Type 0 where
  pub piece : Piece
  pub of_pieces : Contains pieces piece
  pub onto_route : piece.onto_route ≡ route
  pub is_carried : IsCarried piece.from piece.to piece.onto (facts piece.from_route) j row

-- some row is in the set
pub record HasRow (rows : RowSet) : Type 0 where
  pub row : Row
  pub among : IsTrue (contains rows row)

-- the row without columns, at a thousandth between the ends at which the set has no row
pub record IsGap (start finish k : ℕ) (rows : RowSet) (row : Row) : Type 0 where
  pub from_start : start ≤ k
  pub before_finish : k < finish
  pub no_row : HasRow rows → ⊥
  pub no_columns : row ≡ []

-- the set of a list has its rows and no other
abbrev pub SetsHaveTheirRows : Type 0
SetsHaveTheirRows = (rows : List Row) (row : Row) → IsTrue (contains (from_rows rows) row) ↔ Contains rows row

-- rows that are changed are those that some row becomes
abbrev pub ChangedRowsAreThose : Type 0
ChangedRowsAreThose = (change : Row → Row) (rows : RowSet) (row : Row) → IsTrue (contains (mapped change rows) row) ↔ IsChanged change rows row

-- DISSOLVE has what the columns named make of each row, and no other row
abbrev pub DissolvedRowsAreChosen : Type 0
DissolvedRowsAreChosen = (columns : List ℕ) (rows : RowSet) (row : Row) → IsTrue (contains (dissolved columns rows) row) ↔ IsChanged (chosen columns) rows row

-- OVERLAY has all pairs, and no other row
abbrev pub OverlaidRowsArePairs : Type 0
OverlaidRowsArePairs = (a b : RowSet) (row : Row) → IsTrue (contains (overlaid a b) row) ↔ IsPair a b row

-- where both have rows COVER is OVERLAY
abbrev pub CoveredIsOverlaid : Type 0
CoveredIsOverlaid = (m n : ℕ) (a b : RowSet) → HasRow a → HasRow b → covered m n a b ≡ overlaid a b

-- where the first has no row, it has those of the second, each after NULLs
abbrev pub CoveredOfNoneBefore : Type 0
CoveredOfNoneBefore = (m n : ℕ) (b : RowSet) (row : Row) → IsTrue (contains (covered m n none b) row) ↔ IsChanged (λ y. nulls m ++ y) b row

-- where the second has no row, it has those of the first, each before NULLs
abbrev pub CoveredOfNoneAfter : Type 0
CoveredOfNoneAfter = (m n : ℕ) (a : RowSet) (row : Row) → IsTrue (contains (covered m n a none) row) ↔ IsChanged (λ x. x ++ nulls n) a row

-- MERGE has the rows of either
abbrev pub MergedRowsAreOfEither : Type 0
MergedRowsAreOfEither = (a b : RowSet) (row : Row) → contains (merged a b) row ≡ (contains a row || contains b row)

-- MINUS has the rows of the first that are not of the second
abbrev pub LeftRowsAreNotOfTheOther : Type 0
LeftRowsAreNotOfTheOther = (a b : RowSet) (row : Row) → contains (without a b) row ≡ (contains a row && not (contains b row))

-- WINDOW has the same rows inside and none outside
abbrev pub WindowedRowsAreInside : Type 0
WindowedRowsAreInside = (lo hi k : ℕ) (rows : RowSet) (row : Row) → contains (windowed lo hi k rows) row ≡ (within lo hi k && contains rows row)

-- a piece has at a thousandth what it carries there, and no other row
abbrev pub CarriedRowsAreThose : Type 0
CarriedRowsAreThose = (from to onto : ℕ) (places : Places) (j : ℕ) (row : Row) → IsTrue (contains (carried from to onto places j) row) ↔ IsCarried from to onto places j row

-- TRANSFORM has at a thousandth of a route what some piece carries there, and no other row
abbrev pub TransformedRowsAreThose : Type 0
TransformedRowsAreThose = (pieces : List Piece) (facts : Facts) (route : Name) (j : ℕ) (row : Row) → IsTrue (contains (transformed pieces facts route j) row) ↔ IsTransformed pieces facts route j row

-- GAPS has between the ends the row without columns wherever there is no row, and no other row
abbrev pub GapsAreWhereNoRowIs : Type 0
GapsAreWhereNoRowIs = (start finish k : ℕ) (rows : RowSet) (row : Row) → IsTrue (contains (gapped start finish k rows) row) ↔ IsGap start finish k rows row
