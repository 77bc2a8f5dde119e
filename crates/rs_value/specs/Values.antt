-- Which values a row may hold, and which a column of a table may.
use Rattle.std.specs.Prelude.{ℕ, ◌^◌, ◌≤◌, Bool, not, ◌&&◌, ◌||◌, ◌==◌, nat_lt, nat_abs, IsTrue, List, [], ◌∷◌, length}
use Rattle.std.specs.List.{list_any}
use Rattle.std.specs.Str.{is_utf8}
use Rattle.rs_value.specs.declared.column.ColumnType.{ColumnType}
use Rattle.rs_value.specs.declared.column.ColumnType.TheVariants as types
use Rattle.rs_value.specs.Row.{Datum, null, number, text, Row}

-- a byte below the space, and 127
abbrev pub is_control : ℕ → Bool
is_control byte = nat_lt byte 32 || byte == 127

-- printable ASCII: from the space to the tilde
abbrev pub is_plain : ℕ → Bool
is_plain byte = not (nat_lt byte 32) && nat_lt byte 127

-- UTF-8 without control bytes
abbrev pub is_text : List ℕ → Bool
is_text bytes = is_utf8 bytes && not (list_any is_control bytes)

-- a number from -10^12 to 10^12, or a text of UTF-8 without control bytes
abbrev pub IsValue : Datum → Type 0
IsValue null = Unit {0}
IsValue (number n) = nat_abs n ≤ 10 ^ 12
IsValue (text bytes) = IsTrue (is_text bytes)

abbrev pub AreValues : Row → Type 0
AreValues [] = Unit {0}
AreValues (datum ∷ row) = IsValue datum × AreValues row

-- NULL, a number in a column of numbers, a text in a column of texts that is no longer than the column allows
abbrev pub IsOfType : ColumnType → Datum → Type 0
IsOfType type null = Unit {0}
IsOfType types.Int (number n) = IsValue (number n)
IsOfType types.Int (text bytes) = ⊥
IsOfType (types.Text most) (number n) = ⊥
IsOfType (types.Text most) (text bytes) = IsValue (text bytes) × (length bytes ≤ most)

-- one value for each column, from the left, each of its column's type
abbrev pub IsRowOf : List ColumnType → Row → Type 0
IsRowOf [] [] = Unit {0}
IsRowOf (type ∷ types) (datum ∷ row) = IsOfType type datum × IsRowOf types row
IsRowOf [] (datum ∷ row) = ⊥
IsRowOf (type ∷ types) [] = ⊥
