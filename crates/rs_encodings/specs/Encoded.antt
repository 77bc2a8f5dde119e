-- Characters in UTF-16, as bytes.
use Rattle.std.specs.Prelude.{ℕ, ◌/◌, ◌%◌, List, [], ◌∷◌}
use Rattle.std.specs.List.{flat_map}
use Rattle.std.specs.Char.Escape.{encode_utf16}
use Rattle.rs_encodings.specs.declared.encoding.ByteOrder.{ByteOrder}
use Rattle.rs_encodings.specs.declared.encoding.ByteOrder.TheVariants.{HighFirst, LowFirst}

-- the character U+FEFF, which comes first
abbrev pub byte_order_mark : ℕ
byte_order_mark = 65279

-- the two bytes of a unit
abbrev pub bytes_of : ByteOrder → ℕ → List ℕ
bytes_of LowFirst unit = unit % 256 ∷ unit / 256 ∷ []
bytes_of HighFirst unit = unit / 256 ∷ unit % 256 ∷ []

-- the bytes of characters, of which each has one unit or two
abbrev pub utf16_bytes : ByteOrder → List ℕ → List ℕ
utf16_bytes order characters = flat_map (bytes_of order) (flat_map encode_utf16 characters)
