-- A row of a reply as a record of CSV.
use Rattle.std.specs.Prelude.{ℕ, ◌-◌, Bool, true, false, not, ◌==◌, ◌&&◌, ◌||◌, List, [], ◌∷◌, ◌++◌, length, take, codes, if◌then◌else◌}
use Rattle.std.specs.List.{list_any}
use Rattle.std.specs.Str.{bytes_eq}

-- whether a field with this byte stands between marks: a comma, a mark, and the bytes that end a line
abbrev pub calls_for_marks : ℕ → Bool
calls_for_marks byte = byte == 44 || byte == 34 || byte == 10 || byte == 13

-- so does an empty text, which is told from NULL by its marks
abbrev pub needs_marks : List ℕ → Bool
needs_marks [] = true
needs_marks (byte ∷ bytes) = list_any calls_for_marks (byte ∷ bytes)

-- the bytes of a text, each mark among them doubled
abbrev pub marks_doubled : List ℕ → List ℕ
marks_doubled [] = []
marks_doubled (byte ∷ bytes) = if byte == 34 then 34 ∷ 34 ∷ marks_doubled bytes else byte ∷ marks_doubled bytes

-- a text as a field
abbrev pub text_field : List ℕ → List ℕ
text_field text = if needs_marks text then 34 ∷ (marks_doubled text ++ 34 ∷ []) else text

-- the bytes between the quotes of a value, of two quotes one after another the first alone
abbrev pub quotes_single : Bool → List ℕ → List ℕ
quotes_single is_second [] = []
quotes_single is_second (byte ∷ bytes) =
    if is_second && byte == 39 then quotes_single false bytes else byte ∷ quotes_single (byte == 39) bytes

-- all but the last byte
abbrev pub without_last : List ℕ → List ℕ
without_last bytes = take (length bytes - 1) bytes

-- NULL is an empty field, and what has no quotes stands as it is
abbrev pub bare_field : List ℕ → List ℕ
bare_field cell = if bytes_eq cell (codes "NULL") then [] else cell

-- what stands between two spaces of a row, as a field: after a quote a text
abbrev pub field_of : List ℕ → List ℕ
field_of [] = []
field_of (byte ∷ bytes) = if byte == 39 then text_field (quotes_single false (without_last bytes)) else bare_field (byte ∷ bytes)

-- The fields of what is left of a row, with a comma between them, after the bytes of the field begun: a space ends it, where it stands
-- between no quotes.
abbrev pub fields_from : Bool → List ℕ → List ℕ → List ℕ
fields_from is_quoted begun [] = field_of begun
fields_from is_quoted begun (byte ∷ bytes) =
    if byte == 32 && not is_quoted then field_of begun ++ 44 ∷ fields_from false [] bytes
    else fields_from (if byte == 39 then not is_quoted else is_quoted) (begun ++ byte ∷ []) bytes

-- the record of a row: its fields, and a line feed
abbrev pub record_of : List ℕ → List ℕ
record_of row = fields_from false [] row ++ 10 ∷ []
