-- When a row fits the columns of a table, and which refusal says that it does not.
use Rattle.std.specs.Prelude.{Bool, true, false, not, ◌&&◌, ◌==◌, nat_le, min, List, ◌∷◌, length, Option, Some, None, if◌then◌else◌}
use Rattle.rs_refusal.specs.declared.refusal.Refusal.{Refusal}
use Rattle.rs_refusal.specs.declared.refusal.Refusal.TheVariants.{WrongValues, TextTooLong}
use Rattle.rs_value.specs.declared.column.ColumnType.{ColumnType}
use Rattle.rs_value.specs.declared.column.ColumnType.TheVariants as types
use Rattle.rs_value.specs.declared.column.TheConstants.{TEXT_BYTES}
use Rattle.rs_value.specs.Row.{Datum, null, number, text, Row}

-- a number in a column of numbers, a text in a column of texts, NULL in either
abbrev pub has_type : ColumnType → Datum → Bool
has_type type null = true
has_type types.Int (number n) = true
has_type types.Int (text bytes) = false
has_type (types.Text most) (number n) = false
has_type (types.Text most) (text bytes) = true

-- a text that is as long as its column allows, and as any text may be, at the most
abbrev pub has_room : ColumnType → Datum → Bool
has_room (types.Text most) (text bytes) = nat_le (length bytes) (min most TEXT_BYTES)
has_room _ _ = true

-- each column of the left beside the datum of the right
abbrev pub each_passes : (ColumnType → Datum → Bool) → List ColumnType → Row → Bool
each_passes test (type ∷ types) (datum ∷ row) = test type datum && each_passes test types row
each_passes test _ _ = true

-- The number of values is looked at first, then all types, and only then the lengths of texts.
abbrev pub misfit : List ColumnType → Row → Option Refusal
misfit types row =
    if not (length types == length row) then Some WrongValues
    else if not (each_passes has_type types row) then Some WrongValues
    else if not (each_passes has_room types row) then Some TextTooLong
    else None
