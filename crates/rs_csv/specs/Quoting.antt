-- Where the bytes of CSV stand, with this byte between two fields, and the mark of a field in quotes.
use Rattle.std.specs.Prelude.{◌≡◌, ◌⊎◌, not, ℕ, Bool, true, false, ◌||◌, ◌==◌, if◌then◌else◌, List, [], ◌∷◌, ◌++◌}
use Rattle.rs_csv.specs.declared.quoting.Place.{Place}
use Rattle.rs_csv.specs.declared.quoting.Place.TheVariants as places

-- a line feed, or a carriage return
abbrev pub is_line_end : ℕ → Bool
is_line_end byte = byte == 10 || byte == 13

-- outside quotes
abbrev pub after_plain : ℕ → ℕ → Place
after_plain separator byte = if byte == separator || is_line_end byte then places.Start else places.Plain

-- the place after a byte
abbrev pub after : ℕ → Place → ℕ → Place
after separator places.Start byte = if byte == 34 then places.Inside else after_plain separator byte
after separator places.Plain byte = after_plain separator byte
after separator places.Inside byte = if byte == 34 then places.Behind else places.Inside
after separator places.Behind byte = if byte == 34 then places.Inside else after_plain separator byte

-- it goes on a record outside quotes
abbrev pub goes_on : ℕ → Bool
goes_on byte = not (is_line_end byte || byte == 34)

abbrev pub AreRun : List ℕ → Type 0
AreRun [] = Unit {0}
AreRun (byte ∷ bytes) = (goes_on byte ≡ true) × AreRun bytes

-- a place outside quotes
abbrev pub IsOutside : Place → Type 0
IsOutside place = (place ≡ places.Start) ⊎ (place ≡ places.Plain)

-- a line end outside quotes
abbrev pub ends_record : Place → ℕ → Bool
ends_record places.Inside byte = false
ends_record _ byte = is_line_end byte

-- the byte opens a field in quotes
abbrev pub opens : Place → ℕ → Bool
opens places.Start byte = byte == 34
opens _ byte = false

-- a byte as it is read: three quotes where it opens a field
abbrev pub mark : Place → ℕ → List ℕ
mark place byte = if opens place byte then 34 ∷ 34 ∷ 34 ∷ [] else byte ∷ []

-- bytes as they are read
abbrev pub marked : ℕ → Place → List ℕ → List ℕ
marked separator place [] = []
marked separator place (byte ∷ bytes) = mark place byte ++ marked separator (after separator place byte) bytes
