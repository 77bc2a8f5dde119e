-- What lists say item by item, and what the loop over a quoted text keeps.
use Rattle.std.proofs.Common.{◌≡◌, ℕ, zero, suc, ◌<◌, Bool, false, List, [], ◌∷◌, ◌++◌, length, get_or, sym, ap, ◌∙◌, append_assoc, arith}
use Rattle.std.specs.Char.{encode_utf8}
use Rattle.rs_grammar.specs.declared.kind.TokenKind.{TokenKind}
use Rattle.rs_syntax.proofs.ToldLaws.{AreToldOf-append}
use Rattle.rs_syntax.specs.Written.{Lexeme, list_lexemes, further_lexemes, unquoted_rest, AreToldOf}

further_told : {A : Type 0} (kind : TokenKind) (line : List ℕ) (lexemes : A → List Lexeme) (items : List A) → AreToldOf line (further_lexemes kind lexemes items)
    → (i : ℕ) (d : A) → i < length items → AreToldOf line (lexemes (get_or items i d))
further_told kind line lexemes [] told i d h = absurd (omega arith)
further_told kind line lexemes (item ∷ items) told zero d h = (AreToldOf-append line (lexemes item) (further_lexemes kind lexemes items) told.1).0
further_told kind line lexemes (item ∷ items) told (suc i) d h = further_told kind line lexemes items (AreToldOf-append line (lexemes item) (further_lexemes kind lexemes items) told.1).1 i d (omega arith)

-- the tokens of each item of a list
pub list_told : {A : Type 0} (kind : TokenKind) (line : List ℕ) (lexemes : A → List Lexeme) (items : List A) → AreToldOf line (list_lexemes kind lexemes items)
    → (i : ℕ) (d : A) → i < length items → AreToldOf line (lexemes (get_or items i d))
list_told kind line lexemes [] told i d h = absurd (omega arith)
list_told kind line lexemes (item ∷ items) told zero d h = (AreToldOf-append line (lexemes item) (further_lexemes kind lexemes items) told).0
list_told kind line lexemes (item ∷ items) told (suc i) d h = further_told kind line lexemes items (AreToldOf-append line (lexemes item) (further_lexemes kind lexemes items) told).1 i d (omega arith)

-- what the loop over the characters keeps, where one stands for itself
pub unquoted_more : (text seen rest : List ℕ) (character : ℕ) (behind_quote : Bool) (whole : List ℕ)
    → text ++ unquoted_rest behind_quote seen ≡ whole → seen ≡ encode_utf8 character ++ rest
    → unquoted_rest behind_quote (encode_utf8 character ++ rest) ≡ encode_utf8 character ++ unquoted_rest false rest
    → (text ++ encode_utf8 character) ++ unquoted_rest false rest ≡ whole
unquoted_more text seen rest character behind_quote whole before next stands =
    append_assoc text (encode_utf8 character) (unquoted_rest false rest) ∙ ap (λ bs. text ++ bs) (sym stands ∙ ap (unquoted_rest behind_quote) (sym next)) ∙ before
