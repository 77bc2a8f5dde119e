-- Which texts are questions, by their first word.
use Rattle.std.specs.Prelude.{ℕ, Bool, true, not, ◌==◌, ◌&&◌, ◌||◌, List, [], ◌∷◌, length, take, drop, codes, if◌then◌else◌}
use Rattle.std.specs.Str.{bytes_eq}
use Rattle.rs_grammar.specs.Words.{is_word_byte}

-- the bytes from the first that is no space
abbrev pub after_spaces : List ℕ → List ℕ
after_spaces [] = []
after_spaces (byte ∷ bytes) = if byte == 32 then after_spaces bytes else byte ∷ bytes

-- a word ends before these bytes: no letter, digit or `_` follows
abbrev pub ends_word : List ℕ → Bool
ends_word [] = true
ends_word (byte ∷ bytes) = not (is_word_byte byte)

abbrev pub begins_with_word : List ℕ → List ℕ → Bool
begins_with_word word text = bytes_eq (take (length word) text) word && ends_word (drop (length word) text)

-- the first word is SELECT or TOTAL
abbrev pub asks_rows : List ℕ → Bool
asks_rows text = begins_with_word (codes "SELECT") (after_spaces text) || begins_with_word (codes "TOTAL") (after_spaces text)
