-- What is put into a line for the fields of a record.
use Rattle.std.specs.Prelude.{◌≡◌, ◌⊎◌, ℕ, ◌+◌, ◌/◌, ◌%◌, nat_lt, Bool, true, false, if◌then◌else◌, List, [], ◌∷◌, ◌++◌, codes, decimal}
use Rattle.rs_lexer.specs.declared.token.Token.{Token}
use Rattle.rs_lexer.specs.Lexis.{token_text}
use Rattle.rs_measure.specs.FixedPoint.{number_of_digits}
use Rattle.rs_measure.specs.Measure.{measure_text}
use Rattle.rs_methods.specs.Position.{PositionExpression, absolute, relative_of, expression_text}
use Rattle.rs_methods.specs.declared.position.Sign.{Sign}
use Rattle.rs_value.specs.declared.column.ColumnType.{ColumnType}
use Rattle.rs_value.specs.declared.column.ColumnType.TheVariants as types
use Rattle.rs_value.specs.Row.{Datum, null, number, text}
use Rattle.rs_value.specs.Text.{datum_text}
use Rattle.rs_syntax.specs.declared.written.WrittenPosition.{WrittenPosition}
use Rattle.rs_syntax.specs.declared.written.WrittenPosition.TheVariants as written_positions
use Rattle.rs_syntax.specs.Written.{signed}
use Rattle.rs_csv_lines.specs.declared.plan.Measures.{Measures}
use Rattle.rs_csv_lines.specs.declared.plan.Scale.{Scale}
use Rattle.rs_csv_lines.specs.declared.plan.Scale.TheVariants as scales
use Rattle.rs_csv_lines.specs.Fields.{content, SpellsPosition, SpellsNumber, WritesBeside}
use Rattle.rs_csv_lines.specs.Numbers.{WritesMeasure, WritesWhole}

-- the digits of a session, one or two
abbrev pub session_text : ℕ → List ℕ
session_text n = if nat_lt n 10 then (48 + n) ∷ [] else (48 + n / 10) ∷ (48 + n % 10) ∷ []

-- the tokens of a position, with no blank between them
abbrev pub position_text : List ℕ → WrittenPosition → List ℕ
position_text field (written_positions.Measure measure) = token_text field measure
position_text field (written_positions.Percentage digits) = token_text field digits ++ codes "%"
position_text field (written_positions.Referent name) = codes "@" ++ token_text field name
position_text field (written_positions.Beyond name measure) = codes "@" ++ token_text field name ++ codes "+" ++ token_text field measure
position_text field (written_positions.Before name measure) = codes "@" ++ token_text field name ++ codes "-" ++ token_text field measure

-- the text is put for a field that says the position: the tokens that spell it, or the position as it is printed, its measure with three decimals
abbrev pub PutsPosition : Measures → List ℕ → PositionExpression → List ℕ → Type 0
PutsPosition reading field position bytes = ((written : WrittenPosition) × SpellsPosition field written position × (bytes ≡ position_text field written))
    ⊎ (((thousandths : ℕ) × WritesMeasure reading field thousandths × (position ≡ absolute thousandths) × (bytes ≡ measure_text thousandths))
    ⊎ ((name : List ℕ) × (sign : Sign) × (thousandths : ℕ) × WritesBeside reading.rounds field name sign thousandths
    × (position ≡ relative_of name sign thousandths) × (bytes ≡ expression_text (relative_of name sign thousandths))))

-- the sign and the digits of a number
abbrev pub signed_text : Bool → List ℕ → List ℕ
signed_text true digits = codes "-" ++ digits
signed_text false digits = digits

-- the text is put for a field that says the number: the sign and the digits that spell it, or its own
abbrev pub PutsNumber : Scale → List ℕ → Datum → List ℕ → Type 0
PutsNumber scale field datum bytes =
    ((is_negative : Bool) × (digits : Token) × SpellsNumber field is_negative digits
    × (datum ≡ number (signed is_negative (number_of_digits (token_text field digits)))) × (bytes ≡ signed_text is_negative (token_text field digits)) × (scale ≡ scales.One))
    ⊎ ((is_negative : Bool) × (amount : ℕ) × WritesWhole scale field is_negative amount
    × (datum ≡ number (signed is_negative amount)) × (bytes ≡ signed_text is_negative (decimal amount)))

-- the text is put for a field of a column that says the datum
abbrev pub PutsDatum : ColumnType → Scale → List ℕ → Datum → List ℕ → Type 0
PutsDatum type scale [] datum bytes = (datum ≡ null) × (bytes ≡ codes "NULL")
PutsDatum types.Int scale (byte ∷ rest) datum bytes = PutsNumber scale (content (byte ∷ rest)) datum bytes
PutsDatum (types.Text most) scale (byte ∷ rest) datum bytes = (datum ≡ text (content (byte ∷ rest)))
    × (bytes ≡ datum_text (text (content (byte ∷ rest))))
