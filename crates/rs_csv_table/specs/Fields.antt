-- A field of CSV as it is shown.
use Rattle.std.specs.Prelude.{ℕ, suc, Bool, true, not, nat_lt, ◌==◌, ◌||◌, ◌&&◌, List, [], ◌∷◌, map, if◌then◌else◌}
use Rattle.std.specs.Char.{is_ascii_digit}
use Rattle.std.specs.List.{list_all, list_any}

abbrev pub Field : Type 0
Field = List ℕ

abbrev pub Record : Type 0
Record = List Field

-- bytes that stand for no character that is seen, line ends among them
abbrev pub is_control : ℕ → Bool
is_control byte = nat_lt byte 32 || byte == 127

abbrev pub shown_byte : ℕ → ℕ
shown_byte byte = if is_control byte then 32 else byte

-- the field, with a space for each control character
abbrev pub shown : Field → List ℕ
shown field = map shown_byte field

-- a byte of UTF-8 begins a character, or goes on with one
abbrev pub begins_character : ℕ → Bool
begins_character byte = nat_lt byte 128 || not (nat_lt byte 192)

-- how many characters it has
abbrev pub width : Field → ℕ
width [] = 0
width (byte ∷ bytes) = if begins_character byte then suc (width bytes) else width bytes

-- a digit, a sign, a point or a percent sign
abbrev pub is_figure : ℕ → Bool
is_figure byte = is_ascii_digit byte || byte == 43 || byte == 45 || byte == 46 || byte == 37

abbrev pub is_number : Field → Bool
is_number field = list_all is_figure field && list_any is_ascii_digit field

-- a number, or nothing
abbrev pub fits_right : Field → Bool
fits_right [] = true
fits_right (byte ∷ bytes) = is_number (byte ∷ bytes)
