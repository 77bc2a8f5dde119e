-- The rows of records that are left out.
use Rattle.std.specs.Prelude.{◌≡◌, ◌⊎◌, ℕ, ◌≤◌, ◌==◌, if◌then◌else◌, List, [], ◌∷◌, ◌++◌, Option, Some, None, codes, length, replicate, take}
use Rattle.std.specs.Io.KnownBytes.{Appends, Keeps}

-- a byte of a text in quotes, which a quote is twice
abbrev pub twice : ℕ → List ℕ
twice byte = if byte == 34 then 34 ∷ 34 ∷ [] else byte ∷ []

abbrev pub doubled : List ℕ → List ℕ
doubled [] = []
doubled (byte ∷ bytes) = twice byte ++ doubled bytes

-- a text in quotes
abbrev pub quoted : List ℕ → List ℕ
quoted text = 34 ∷ (doubled text ++ 34 ∷ [])

-- a field as it stood: one that was in quotes was read with a quote before it
abbrev pub raw_field : List ℕ → List ℕ
raw_field [] = []
raw_field (byte ∷ bytes) = if byte == 34 then quoted bytes else byte ∷ bytes

-- fields, each with the separator after it
abbrev pub fields_text : ℕ → List (List ℕ) → List ℕ
fields_text separator [] = []
fields_text separator (field ∷ fields) = raw_field field ++ separator ∷ fields_text separator fields

-- so many empty fields
abbrev pub padding : ℕ → ℕ → List ℕ
padding separator count = replicate count separator

-- The row: the fields, those that it lacks, and the reason in quotes.
abbrev pub reject_line : ℕ → List (List ℕ) → ℕ → List ℕ → List ℕ
reject_line separator fields lacking reason = fields_text separator fields ++ padding separator lacking ++ quoted reason ++ 10 ∷ []

-- the row of a record with this reason: its first fields, and empty ones
abbrev pub IsRejectRow : ℕ → List (List ℕ) → (reason : List ℕ) → List ℕ → Type 0
IsRejectRow separator fields reason row = (count : ℕ) × (lacking : ℕ) × (count ≤ length fields) × (row ≡ reject_line separator (take count fields) lacking reason)

-- the row of the header, or none
abbrev pub IsHeaderRow : ℕ → List (List ℕ) → List ℕ → Type 0
IsHeaderRow separator header row = (row ≡ []) ⊎ IsRejectRow separator header (codes "left_out_because") row

-- what a writer took, where there is one
abbrev pub option_taken : {W : Type 0} → (W → Option (List ℕ)) → Option W → Option (List ℕ)
option_taken contents (Some writer) = contents writer
option_taken contents None = None

-- What is taken of a record: its row, with some reason, after that of the header or not.
pub record GivesRow (separator : ℕ) (header fields : List (List ℕ)) (before after : Option (List ℕ)) : Type 0 where
  pub head : List ℕ
  pub row : List ℕ
  pub reason : List ℕ
  pub head_is : IsHeaderRow separator header head
  pub row_is : IsRejectRow separator fields reason row
  pub taken : Appends before after (head ++ row)

-- A record has a line, and nothing is taken of it; or it has none, and its row is taken.
abbrev pub HasLineOrRow : ℕ → List (List ℕ) → List (List ℕ) → (old new : List ℕ) → (before after : Option (List ℕ)) → Type 0
HasLineOrRow separator header fields old new before after =
    (((line : List ℕ) × (new ≡ old ++ line ++ 10 ∷ [])) × Keeps before after) ⊎ ((new ≡ old) × GivesRow separator header fields before after)
