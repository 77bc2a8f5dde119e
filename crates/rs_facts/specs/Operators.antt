-- Operators: what they make of the rows that hold at one thousandth.
use Rattle.std.specs.Prelude.{ℕ, ◌+◌, ◌-◌, ◌==◌, Bool, true, false, not, List, [], ◌∷◌, ◌++◌, map, flat_map, get_or, replicate, if◌then◌else◌}
use Rattle.rs_value.specs.Row.{Datum, null, Row}
use Rattle.rs_facts.specs.Fact.{RowSet, none, contains, add, items, keep, Places, thousandths}
use Rattle.rs_facts.specs.Insert.{within}

-- the set of the rows of a list
abbrev pub from_rows : List Row → RowSet
from_rows [] = none
from_rows (row ∷ rows) = add (from_rows rows) row

-- each row changed
unfoldable pub mapped : (Row → Row) → RowSet → RowSet
mapped change rows = from_rows (map change (items rows))

-- so many NULLs
unfoldable pub nulls : ℕ → Row
nulls width = replicate width null

-- the value in a column by its place, the leftmost 0; NULL past the end
abbrev pub datum_at : Row → ℕ → Datum
datum_at row column = get_or row column null

-- the values in the columns named, each by its place
unfoldable pub chosen : List ℕ → Row → Row
chosen columns row = map (λ column. datum_at row column) columns

-- DISSOLVE: the named columns of each row
unfoldable pub dissolved : List ℕ → RowSet → RowSet
dissolved columns rows = mapped (chosen columns) rows

-- OVERLAY: each row of the one before each row of the other
unfoldable pub overlaid : RowSet → RowSet → RowSet
overlaid a b = from_rows (flat_map (λ x. map (λ y. x ++ y) (items b)) (items a))

abbrev pub are_none : List Row → Bool
are_none [] = true
are_none (row ∷ rows) = false

abbrev pub has_none : RowSet → Bool
has_none rows = are_none (items rows)

-- COVER of rows of m columns and rows of n: OVERLAY where both have rows; where the second alone has, its rows after
-- m NULLs; where the first alone has, its rows before n NULLs
unfoldable pub covered : ℕ → ℕ → RowSet → RowSet → RowSet
covered m n a b = if has_none a then mapped (λ y. nulls m ++ y) b else if has_none b then mapped (λ x. x ++ nulls n) a else overlaid a b

-- MERGE: the rows of either
unfoldable pub merged : RowSet → RowSet → RowSet
merged a b = from_rows (items a ++ items b)

-- MINUS: the rows of the first that the second has not
unfoldable pub without : RowSet → RowSet → RowSet
without a b = keep (λ row. not (contains b row)) a

-- WINDOW: the same rows at k with lo ≤ k < hi, and none elsewhere
unfoldable pub windowed : ℕ → ℕ → ℕ → RowSet → RowSet
windowed lo hi k rows = if within lo hi k then rows else none

-- the row without columns
abbrev pub no_columns : RowSet
no_columns = add none []

-- GAPS between the ends of a route: the row without columns at k with start ≤ k < finish where there is no row, and
-- nothing elsewhere
unfoldable pub gapped : ℕ → ℕ → ℕ → RowSet → RowSet
gapped start finish k rows = windowed start finish k (if has_none rows then no_columns else none)

-- TRANSFORM, by one piece of an alignment: the thousandth `from` is carried to `onto`, and each k with from ≤ k < to as
-- far past it. At j are the rows of every k that is carried there.
unfoldable pub carried : ℕ → ℕ → ℕ → Places → Places
carried from to onto places j = from_rows (flat_map (λ k. if onto + (k - from) == j then items (places k) else []) (thousandths from to))
