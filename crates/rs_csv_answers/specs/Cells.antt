-- A row as what it says, cell by cell: how its text has each, and how its record does.
use Rattle.std.specs.Prelude.{◌≢◌, ◌<◌, ◌^◌, ⊤, ℕ, ℤ, pos, negsuc, suc, List, [], ◌∷◌, ◌++◌, codes, map}
use Rattle.std.specs.Fmt.{signed_decimal}
use Rattle.std.specs.List.{AllByRecursion, join_with_byte}
use Rattle.rs_csv_answers.specs.Records.{text_field}
use Rattle.rs_value.specs.Row.{Datum, null, number, text}
use Rattle.rs_value.specs.Text.{datum_text}

-- a name, a position or an amount, or a value of a row
pub data Cell : Type 0 where
  bare : List ℕ → Cell
  value : Datum → Cell

-- as the row's text has it
abbrev pub cell_text : Cell → List ℕ
cell_text (bare bytes) = bytes
cell_text (value datum) = datum_text datum

-- as its record has it: NULL is an empty field, and a text has no quotes of the language
abbrev pub cell_field : Cell → List ℕ
cell_field (bare bytes) = bytes
cell_field (value null) = []
cell_field (value (number n)) = signed_decimal n
cell_field (value (text bytes)) = text_field bytes

-- no space and no quote
abbrev pub IsPlain : ℕ → Type 0
IsPlain byte = (byte ≢ 32) × (byte ≢ 39)

-- numbers of 64 bits
abbrev pub IsShort : ℤ → Type 0
IsShort (pos n) = n < 2 ^ 64
IsShort (negsuc n) = suc n < 2 ^ 64

-- names, positions and amounts have no space and no quote, and none is called NULL
abbrev pub IsCell : Cell → Type 0
IsCell (bare bytes) = AllByRecursion IsPlain bytes × (bytes ≢ codes "NULL")
IsCell (value null) = ⊤
IsCell (value (number n)) = IsShort n
IsCell (value (text bytes)) = ⊤

-- a row's text, with a space between its cells
abbrev pub row_of : List Cell → List ℕ
row_of cells = join_with_byte 32 (map cell_text cells)

-- a record, with a comma between its fields
abbrev pub csv_of : List Cell → List ℕ
csv_of cells = join_with_byte 44 (map cell_field cells) ++ 10 ∷ []
