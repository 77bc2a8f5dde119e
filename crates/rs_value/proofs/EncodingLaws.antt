-- Bytes say one row, and each row has bytes.
use Rattle.std.proofs.Common.{◌≡◌, ℕ, ◌+◌, ◌-◌, ◌^◌, ◌≤◌, suc, ℤ, pos, negsuc, nat_abs, List, [], ◌∷◌, ◌++◌, length, replicate, min, true, refl, sym, ◌∙◌, arith}
use Rattle.std.specs.FinMap.{nat_cmp-IsAntisymmetric, slice_cmp-IsAntisymmetric}
use Rattle.std.specs.Int.{w64, to_be_bytes}
use Rattle.std.proofs.lemmas.Cmp.{nat_list_cmp_total, tied_itself}
use Rattle.std.proofs.lemmas.Bool.{and_parts, leb-true}
use Rattle.rs_value.specs.declared.column.ColumnType.{ColumnType}
use Rattle.rs_value.specs.declared.column.ColumnType.TheVariants as types
use Rattle.rs_value.specs.declared.column.TheConstants.{TEXT_BYTES}
use Rattle.rs_value.specs.Row.{Datum, null, number, text, Row}
use Rattle.rs_value.specs.Values.{IsOfType, IsRowOf}
use Rattle.rs_value.specs.Fitting.{has_room, each_passes}
use Rattle.rs_value.specs.Encoding.{width, SaysNumber, SaysDatum, SaysRow}
use Rattle.rs_value.specs.RowOrder.{row_total, row_antisymmetric}
use Rattle.rs_value.proofs.EncodingOrder.{from_above, rows_cmp}

pub row_said_once : (types : List ColumnType) (bytes : List ℕ) (x y : Row) → SaysRow types bytes x → SaysRow types bytes y → x ≡ y
row_said_once types bytes x y h g = row_antisymmetric x y (sym (rows_cmp types bytes bytes x y h g) ∙ tied_itself nat_list_cmp_total bytes)

pub bytes_once : (types : List ColumnType) (a b : List ℕ) (row : Row) → SaysRow types a row → SaysRow types b row → a ≡ b
bytes_once types a b row h g = slice_cmp-IsAntisymmetric nat_cmp-IsAntisymmetric a b (rows_cmp types a b row row h g ∙ tied_itself row_total row)

number_said : (n : ℤ) → nat_abs n ≤ 10 ^ 12 → (bytes : List ℕ) × SaysNumber bytes n
number_said (pos k) few = (1 ∷ to_be_bytes w64 (2 ^ 63 + k), (2 ^ 63 + k, from_above (pos k) (2 ^ 63 + k) few refl, refl))
number_said (negsuc k) few =
    let few_here : suc k ≤ 10 ^ 12 = few in
    (1 ∷ to_be_bytes w64 (2 ^ 63 - suc k), (2 ^ 63 - suc k, from_above (negsuc k) (2 ^ 63 - suc k) few (omega arith), refl))

datum_said : (type : ColumnType) (datum : Datum) → IsOfType type datum → has_room type datum ≡ true → (bytes : List ℕ) × SaysDatum type bytes datum
datum_said type null h room = (replicate (width type) 0, refl)
datum_said types.Int (number n) h room = let said = number_said n h in (said.0, (h, said.1))
datum_said types.Int (text said) h room = absurd h
datum_said (types.Text most) (number n) h room = absurd h
datum_said (types.Text most) (text said) h room = (1 ∷ said ++ replicate (most - length said) 0, (h.0, (leb-true (length said) (min most TEXT_BYTES) room, refl)))

pub row_said : (types : List ColumnType) (row : Row) → IsRowOf types row → each_passes has_room types row ≡ true → (bytes : List ℕ) × SaysRow types bytes row
row_said [] [] h room = ([], refl)
row_said [] (datum ∷ row) h room = absurd h
row_said (type ∷ types) [] h room = absurd h
row_said (type ∷ types) (datum ∷ row) h room =
    let rooms = and_parts (has_room type datum) (each_passes has_room types row) room in
    let first = datum_said type datum h.0 rooms.0 in
    let rest = row_said types row h.1 rooms.1 in
    (first.0 ++ rest.0, (first.0, rest.0, refl, first.1, rest.1))

datum_typed : (type : ColumnType) (bytes : List ℕ) (datum : Datum) → SaysDatum type bytes datum → IsOfType type datum
datum_typed type bytes null h = tt
datum_typed types.Int bytes (number n) h = h.0
datum_typed types.Int bytes (text said) h = absurd h
datum_typed (types.Text most) bytes (number n) h = absurd h
datum_typed (types.Text most) bytes (text said) h = let short : length said ≤ min most TEXT_BYTES = h.1.0 in (h.0, omega arith)

pub said_typed : (types : List ColumnType) (bytes : List ℕ) (row : Row) → SaysRow types bytes row → IsRowOf types row
said_typed [] bytes [] h = tt
said_typed [] bytes (datum ∷ row) h = absurd h
said_typed (type ∷ types) bytes [] h = absurd h
said_typed (type ∷ types) bytes (datum ∷ row) (first, rest, is, one, more) = (datum_typed type first datum one, said_typed types rest row more)
