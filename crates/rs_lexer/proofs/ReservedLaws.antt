-- What begins no reserved word.
use Rattle.std.proofs.Common.{◌≡◌, ℕ, false, List, [], ◌∷◌, None, refl}
use Rattle.std.specs.Prelude.{◌==◌, slice_get}
use Rattle.rs_lexer.specs.Lexis.{reserved, kind_in}

-- no word has no byte
pub no_word : (word : List ℕ) → None ≡ slice_get word 0 → None ≡ kind_in reserved word
unfolding reserved
no_word [] none = refl
no_word (byte ∷ bytes) none = cc

-- a byte that begins no reserved word
pub none_begins : (byte : ℕ) (bytes : List ℕ)
    → (65 == byte) ≡ false → (66 == byte) ≡ false → (67 == byte) ≡ false → (68 == byte) ≡ false → (69 == byte) ≡ false → (70 == byte) ≡ false
    → (71 == byte) ≡ false → (73 == byte) ≡ false → (76 == byte) ≡ false → (77 == byte) ≡ false → (78 == byte) ≡ false → (79 == byte) ≡ false
    → (80 == byte) ≡ false → (82 == byte) ≡ false → (83 == byte) ≡ false → (84 == byte) ≡ false → (86 == byte) ≡ false → (87 == byte) ≡ false
    → None ≡ kind_in reserved (byte ∷ bytes)
unfolding reserved
none_begins byte bytes a b c d e f g i l m n o p r s t v w = rw (a, b, c, d, e, f, g, i, l, m, n, o, p, r, s, t, v, w) refl
