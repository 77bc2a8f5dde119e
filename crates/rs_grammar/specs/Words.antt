-- What a word is.
use Rattle.std.specs.Prelude.{ℕ, Bool, ◌||◌, ◌==◌, IsTrue, List, [], ◌∷◌}
use Rattle.std.specs.Char.{is_ascii_alphabetic, is_ascii_alphanumeric}
use Rattle.std.specs.List.{list_all}

-- what a word has after its first letter: ASCII letters, digits and `_`
abbrev pub is_word_byte : ℕ → Bool
is_word_byte byte = is_ascii_alphanumeric byte || (byte == 95)

-- A word: an ASCII letter, then letters, digits and `_`.
abbrev pub IsWord : List ℕ → Type 0
IsWord [] = ⊥
IsWord (letter ∷ bytes) = IsTrue (is_ascii_alphabetic letter) × IsTrue (list_all is_word_byte bytes)
