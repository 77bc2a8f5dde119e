-- What the values and literals of the code say.
use Rattle.std.specs.Prelude.{List, map, string_bytes}
use Rattle.rs_value.specs.declared.value.Value.{Value}
use Rattle.rs_value.specs.declared.value.Value.TheVariants as values
use Rattle.rs_value.specs.declared.value.Literal.{Literal}
use Rattle.rs_value.specs.declared.value.Literal.TheVariants as literals
use Rattle.rs_value.specs.Row.{Datum, null, number, text, Row}

abbrev pub datum_of : Value → Datum
datum_of values.Null = null
datum_of (values.Int n) = number n
datum_of (values.Text bytes) = text bytes.bytes

unfoldable pub row_of : List Value → Row
row_of values = map datum_of values

abbrev pub literal_datum : Literal → Datum
literal_datum literals.Null = null
literal_datum (literals.Int n) = number n
literal_datum (literals.Text bytes) = text (string_bytes bytes)

abbrev pub literal_row : List Literal → Row
literal_row literals = map literal_datum literals
