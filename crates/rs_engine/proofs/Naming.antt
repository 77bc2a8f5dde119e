-- The bytes of a name that a line can say.
use Rattle.std.proofs.Common.{◌≡◌, ◌<◌, ℕ, List, [], ◌∷◌, true, arith}
use Rattle.std.proofs.lemmas.Bool.Decides.{nat_tests}
use Rattle.std.proofs.lemmas.Bool.{and_parts}
use Rattle.std.specs.List.{AllByRecursion, list_all}
use Rattle.rs_grammar.specs.Words.{is_word_byte}
use Rattle.rs_methods.specs.PositionText.{IsWord}
use Rattle.rs_syntax.specs.Sound.{IsName}

positive_byte : (byte : ℕ) → is_word_byte byte ≡ true → 0 < byte
positive_byte byte is = grind (arith, nat_tests)

positive_bytes : (bytes : List ℕ) → list_all is_word_byte bytes ≡ true → AllByRecursion (λ byte. 0 < byte) bytes
positive_bytes [] is = tt
positive_bytes (byte ∷ bytes) is =
    let both = and_parts (is_word_byte byte) (list_all is_word_byte bytes) is in
    (positive_byte byte both.0, positive_bytes bytes both.1)

positive_letter : (letter : ℕ) (bytes : List ℕ) → IsWord (letter ∷ bytes) → 0 < letter
positive_letter letter bytes is = grind (arith, nat_tests)

-- no byte of a name is zero
pub named_positive : (name : List ℕ) → IsName name → AllByRecursion (λ byte. 0 < byte) name
named_positive name is = positive_word name is.word
  where
    positive_word : (word : List ℕ) → IsWord word → AllByRecursion (λ byte. 0 < byte) word
    positive_word [] is = absurd is
    positive_word (letter ∷ bytes) is = (positive_letter letter bytes is, positive_bytes bytes is.1)
