-- A row of a table as a value, and the order of rows.
use Rattle.std.specs.Prelude.{ℕ, ℤ, pos, List, []}
use Rattle.std.specs.declared.cmp.Ordering.{Ordering}
use Rattle.std.specs.Ordering.{nat_cmp, int_cmp, ordering_then}
use Rattle.std.specs.Cmp.Lexicographic.{slice_cmp}

-- one value of a row
pub data Datum : Type 0 where
  null : Datum
  number : ℤ → Datum
  text : List ℕ → Datum

-- NULL, then numbers, then texts
abbrev pub rank : Datum → ℕ
rank null = 0
rank (number n) = 1
rank (text bytes) = 2

-- the number, and 0 where there is none
abbrev pub number_in : Datum → ℤ
number_in null = pos 0
number_in (number n) = n
number_in (text bytes) = pos 0

-- the bytes of the text, and none where there is none
abbrev pub text_in : Datum → List ℕ
text_in null = []
text_in (number n) = []
text_in (text bytes) = bytes

-- by rank, then by number, then by bytes
unfoldable pub datum_cmp : Datum → Datum → Ordering
datum_cmp a b = ordering_then (nat_cmp (rank a) (rank b)) (ordering_then (int_cmp (number_in a) (number_in b)) (slice_cmp nat_cmp (text_in a) (text_in b)))

-- one datum for each column, from the left
abbrev pub Row : Type 0
Row = List Datum

-- column by column from the left
unfoldable pub row_cmp : Row → Row → Ordering
row_cmp = slice_cmp datum_cmp
