-- The byte between two fields of a CSV.
use Rattle.std.specs.Prelude.{ℕ, Bool, ◌==◌, ◌||◌, [], ◌∷◌, Option, Some, None, codes, if◌then◌else◌}
use Rattle.std.specs.Str.{bytes_eq}
use Rattle.clap.specs.Words.{Text}

-- a quote, a line feed, a carriage return and NUL stand between no fields
abbrev pub parts_none : ℕ → Bool
parts_none byte = byte == 34 || byte == 10 || byte == 13 || byte == 0

-- the only byte of a text, where it may stand between fields
abbrev pub only_byte : Text → Option ℕ
only_byte (byte ∷ []) = if parts_none byte then None else Some byte
only_byte text = None

-- the byte that a text says: its only one, or for `tab` a tab
abbrev pub separator_in : Text → Option ℕ
separator_in text = if bytes_eq text (codes "tab") then Some 9 else only_byte text
