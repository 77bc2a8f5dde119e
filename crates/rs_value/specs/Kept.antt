-- How a row is kept in memory: as bytes that say where each value ends, and that compare as rows do.
use Rattle.std.specs.Prelude.{ℕ, zero, suc, ◌+◌, ◌^◌, ◌≤◌, ◌≡◌, ◌==◌, ℤ, pos, nat_abs, ◌+ℤ◌, ◌-ℤ◌, Bool, List, [], ◌∷◌, ◌++◌, length, take, drop, if◌then◌else◌}
use Rattle.std.specs.List.{AllByRecursion, position_or_len}
use Rattle.std.specs.Int.{w64, to_be_bytes, from_be_bytes}
use Rattle.rs_value.specs.declared.column.TheConstants.{TEXT_BYTES}
use Rattle.rs_value.specs.Row.{Datum, null, number, text, Row}
use Rattle.rs_value.specs.Values.{IsValue}

-- how far a number is above -2^63
abbrev pub above_least : ℤ → ℕ
above_least n = nat_abs (n +ℤ pos (2 ^ 63))

-- NULL is 0; a number is 1, then how far it is above -2^63 in eight bytes, the highest first; a text is 2, its bytes, then 0
abbrev pub kept_datum : Datum → List ℕ
kept_datum null = 0 ∷ []
kept_datum (number n) = 1 ∷ to_be_bytes w64 (above_least n)
kept_datum (text said) = 2 ∷ said ++ 0 ∷ []

-- one value after another
abbrev pub kept_bytes : Row → List ℕ
kept_bytes [] = []
kept_bytes (datum ∷ row) = kept_datum datum ++ kept_bytes row

-- a text that is as long as any text may be, at the most
abbrev pub IsShort : Datum → Type 0
IsShort null = Unit {0}
IsShort (number n) = Unit {0}
IsShort (text said) = length said ≤ TEXT_BYTES

-- a value as rows hold them
abbrev pub MayBeKept : Datum → Type 0
MayBeKept datum = IsValue datum × IsShort datum

-- these bytes keep this row
pub record Keeps (bytes : List ℕ) (row : Row) : Type 0 where
  pub values : AllByRecursion MayBeKept row
  pub bytes_are : bytes ≡ kept_bytes row

abbrev pub is_zero : ℕ → Bool
is_zero byte = byte == 0

-- how many bytes the first value takes; 0 where there is none
abbrev pub first_width : List ℕ → ℕ
first_width [] = 0
first_width (mark ∷ rest) = if mark == 0 then 1 else if mark == 1 then 9 else position_or_len is_zero rest + 2

-- the value at the front
abbrev pub first_datum : List ℕ → Datum
first_datum [] = null
first_datum (mark ∷ rest) =
    if mark == 0 then null
    else if mark == 1 then number (pos (from_be_bytes w64 (take 8 rest)) -ℤ pos (2 ^ 63))
    else text (take (position_or_len is_zero rest) rest)

-- the values, of which there are at most so many
abbrev pub row_within : ℕ → List ℕ → Row
row_within zero bytes = []
row_within (suc most) [] = []
row_within (suc most) (mark ∷ rest) = first_datum (mark ∷ rest) ∷ row_within most (drop (first_width (mark ∷ rest)) (mark ∷ rest))

-- the row that bytes keep, where they keep one
unfoldable pub row_in : List ℕ → Row
row_in bytes = row_within (length bytes) bytes
