-- How values and rows are printed.
use Rattle.std.specs.Prelude.{ℕ, List, [], ◌∷◌, ◌++◌, ◌==◌, if◌then◌else◌, codes}
use Rattle.std.specs.Fmt.{signed_decimal}
use Rattle.rs_value.specs.Row.{Datum, null, number, text, Row}

-- the bytes of a text, each quote among them doubled
abbrev pub quotes_doubled : List ℕ → List ℕ
quotes_doubled [] = []
quotes_doubled (byte ∷ bytes) = if byte == 39 then codes "''" ++ quotes_doubled bytes else byte ∷ quotes_doubled bytes

-- NULL, a number in decimal digits, a text between quotes
abbrev pub datum_text : Datum → List ℕ
datum_text null = codes "NULL"
datum_text (number n) = signed_decimal n
datum_text (text bytes) = codes "'" ++ quotes_doubled bytes ++ codes "'"

-- the text of each datum after a space
abbrev pub values_text : Row → List ℕ
values_text [] = []
values_text (datum ∷ row) = codes " " ++ datum_text datum ++ values_text row
