-- Texts in Latin-1 and UTF-16, as UTF-8.
use Rattle.std.specs.Prelude.{ℕ, ◌+◌, ◌*◌, ◌==◌, ◌&&◌, if◌then◌else◌, List, [], ◌∷◌, ◌++◌, Option, Some, None}
use Rattle.std.specs.List.{flat_map}
use Rattle.std.specs.Char.{encode_utf8}
use Rattle.std.specs.Char.Utf16.{utf16_chars}
use Rattle.std.specs.Str.{encode_utf8_all}
use Rattle.rs_encodings.specs.declared.encoding.ByteOrder.{ByteOrder}
use Rattle.rs_encodings.specs.declared.encoding.ByteOrder.TheVariants.{HighFirst, LowFirst}
use Rattle.rs_encodings.specs.declared.encoding.Encoding.{Encoding}
use Rattle.rs_encodings.specs.declared.encoding.Encoding.TheVariants.{ByMark, Latin1}

-- the unit that two bytes are
abbrev pub unit_of : ByteOrder → ℕ → ℕ → ℕ
unit_of LowFirst low high = low + 256 * high
unit_of HighFirst high low = 256 * high + low

-- the units that bytes are, two by two
abbrev pub units_of : ByteOrder → List ℕ → List ℕ
units_of order [] = []
units_of order (a ∷ []) = []
units_of order (a ∷ b ∷ bytes) = unit_of order a b ∷ units_of order bytes

-- a character in UTF-8, or where there is none the byte 255, which is in no UTF-8
abbrev pub utf8_of : Option ℕ → List ℕ
utf8_of None = 255 ∷ []
utf8_of (Some c) = encode_utf8 c

-- what becomes of a byte after the last unit: it is no character
abbrev pub text_after_units : List ℕ → List ℕ
text_after_units [] = []
text_after_units (a ∷ []) = utf8_of None
text_after_units (a ∷ b ∷ bytes) = text_after_units bytes

-- The text of UTF-16: its characters, those of two units among them. A surrogate without its partner is no character.
abbrev pub utf16_text : ByteOrder → List ℕ → List ℕ
utf16_text order bytes = flat_map utf8_of (utf16_chars (units_of order bytes)) ++ text_after_units bytes

-- the order of bytes that a mark of UTF-16 says
abbrev pub marked_order : List ℕ → Option ByteOrder
marked_order [] = None
marked_order (a ∷ []) = None
marked_order (a ∷ b ∷ bytes) = if (a == 255) && (b == 254) then Some LowFirst else (if (a == 254) && (b == 255) then Some HighFirst else None)

-- the text of bytes in UTF-16, or where no order is said these bytes
abbrev pub text_in_order : Option ByteOrder → List ℕ → List ℕ
text_in_order None bytes = bytes
text_in_order (Some order) bytes = utf16_text order bytes

-- The text of an input: in Latin-1 each byte is the character of that number; else it is UTF-16 where its mark says so.
abbrev pub decoded : Encoding → List ℕ → List ℕ
decoded Latin1 bytes = encode_utf8_all bytes
decoded ByMark bytes = text_in_order (marked_order bytes) bytes
