-- Which bytes say which row. Rows of the same columns have the same width, and their bytes compare as they do.
use Rattle.std.specs.Prelude.{ℕ, ◌+◌, ◌-◌, ◌^◌, ◌≤◌, ◌≡◌, min, ℤ, pos, ◌+ℤ◌, List, [], ◌∷◌, ◌++◌, length, replicate}
use Rattle.std.specs.List.{sum_by}
use Rattle.std.specs.Int.{w64, to_be_bytes}
use Rattle.rs_value.specs.declared.column.ColumnType.{ColumnType}
use Rattle.rs_value.specs.declared.column.ColumnType.TheVariants as types
use Rattle.rs_value.specs.declared.column.TheConstants.{TEXT_BYTES}
use Rattle.rs_value.specs.Row.{Datum, null, number, text, Row}
use Rattle.rs_value.specs.Values.{IsValue}

-- these bytes say this value
abbrev pub Code : Type 0 → Type 1
Code A = List ℕ → A → Type 0

-- how many bytes a value of a column takes, whatever it is
abbrev pub width : ColumnType → ℕ
width types.Int = 9
width (types.Text most) = most + 1

abbrev pub row_width : List ColumnType → ℕ
row_width types = sum_by width types

-- zeros alone
abbrev pub SaysNull : ℕ → List ℕ → Type 0
SaysNull wide bytes = bytes ≡ replicate wide 0

-- 1, then the number above -2^63 in eight bytes, the highest first
abbrev pub SaysNumber : Code ℤ
SaysNumber bytes n = (above : ℕ) × (pos above ≡ n +ℤ pos (2 ^ 63)) × (bytes ≡ 1 ∷ to_be_bytes w64 above)

-- 1, then the text, then zeros
abbrev pub SaysText : ℕ → Code (List ℕ)
SaysText most bytes said = (length said ≤ min most TEXT_BYTES) × (bytes ≡ 1 ∷ said ++ replicate (most - length said) 0)

-- a value of the column's type, in the column's width
abbrev pub SaysDatum : ColumnType → Code Datum
SaysDatum type bytes null = SaysNull (width type) bytes
SaysDatum types.Int bytes (number n) = IsValue (number n) × SaysNumber bytes n
SaysDatum types.Int bytes (text said) = ⊥
SaysDatum (types.Text most) bytes (number n) = ⊥
SaysDatum (types.Text most) bytes (text said) = IsValue (text said) × SaysText most bytes said

-- a value of each column, one after another
abbrev pub SaysRow : List ColumnType → Code Row
SaysRow [] bytes [] = bytes ≡ []
SaysRow (type ∷ types) bytes (datum ∷ row) = (first rest : List ℕ) × (bytes ≡ first ++ rest) × SaysDatum type first datum × SaysRow types rest row
SaysRow [] bytes (datum ∷ row) = ⊥
SaysRow (type ∷ types) bytes [] = ⊥
