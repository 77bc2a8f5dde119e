-- Names made of texts that are none, as an office's `I-95` or `US 40`.
use Rattle.std.specs.Prelude.{◌≡◌, ◌⊎◌, ℕ, ◌-◌, Bool, true, false, List, [], ◌∷◌, ◌++◌, length, take, drop, map, codes, if◌then◌else◌}
use Rattle.std.specs.Char.{is_ascii_alphabetic, is_ascii_whitespace}
use Rattle.std.specs.List.{prefix_len, suffix_len}
use Rattle.rs_grammar.specs.declared.kind.TheConstants.{NAME_BYTES}
use Rattle.rs_grammar.specs.Words.{is_word_byte}
use Rattle.rs_lexer.specs.Names.{IsName}
use Rattle.rs_csv_lines.specs.Fields.{SaysName}

-- a text without the blanks round it
abbrev pub without_front : List ℕ → List ℕ
without_front text = drop (prefix_len is_ascii_whitespace text) text

abbrev pub trimmed : List ℕ → List ℕ
trimmed text = take (length (without_front text) - suffix_len is_ascii_whitespace (without_front text)) (without_front text)

-- a byte that no name has becomes `_`
abbrev pub name_byte : ℕ → ℕ
name_byte byte = if is_word_byte byte then byte else 95

-- before what begins with no letter is `R`
abbrev pub before_name : List ℕ → List ℕ
before_name [] = []
before_name (byte ∷ bytes) = if is_ascii_alphabetic byte then [] else codes "R"

-- the bytes of a text so, cut where they are more than those of a name
abbrev pub name_bytes : List ℕ → List ℕ
name_bytes text = take NAME_BYTES (before_name text ++ map name_byte text)

-- The name that a text is made: these bytes, or where they are no name, since they are a reserved word, `_` after them. Of nothing none is made.
pub record IsMadeName (text name : List ℕ) : Type 0 where
  pub is_name : IsName name
  pub made : (name ≡ name_bytes (trimmed text)) ⊎ ((¬ IsName (name_bytes (trimmed text))) × (name ≡ name_bytes (trimmed text) ++ codes "_"))

-- A text says the name of a route: it is that name, or is made that name where names are made.
abbrev pub SaysRoute : (makes_names : Bool) → List ℕ → List ℕ → Type 0
SaysRoute false text name = SaysName text name
SaysRoute true text name = IsMadeName text name
