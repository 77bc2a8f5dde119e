-- Texts that were met before, and the codes that stand for them.
use Rattle.std.specs.Prelude.{ℕ, ◌+◌, ◌-◌, ◌<◌, nat_lt, List, [], ◌∷◌, ◌++◌, ◌≡◌, All, flat_map, get_or, length, take, if◌then◌else◌}
use Rattle.rs_csv.specs.declared.word.Word.{Word}

-- the text that a word holds
abbrev pub word_text : Word → List ℕ
word_text word = take word.count word.bytes

-- what a code stands for: below 256 a byte, and else a text by its number
abbrev pub said : List (List ℕ) → ℕ → List ℕ
said texts code = if nat_lt code 256 then code ∷ [] else get_or texts (code - 256) []

-- what codes stand for, one after another
abbrev pub unpacked : List (List ℕ) → List ℕ → List ℕ
unpacked texts codes = flat_map (said texts) codes

-- each stands for a byte, or for one of these texts
abbrev pub AreKnown : List (List ℕ) → List ℕ → Type 0
AreKnown texts codes = All (λ code. code < 256 + length texts) codes

-- texts to which others were added
abbrev pub TextsGrow : List (List ℕ) → List (List ℕ) → Type 0
TextsGrow old new = (more : List (List ℕ)) × (new ≡ old ++ more)
