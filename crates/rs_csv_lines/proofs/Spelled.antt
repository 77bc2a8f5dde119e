-- What the tokens of a field spell.
use Rattle.std.proofs.Common.{◌≡◌, ◌∙◌, ℕ, ◌<◌, ◌≤◌, Bool, true, false, List, [], ◌∷◌, ◌++◌, length, get_or, Ok, refl, sym, subst, append-nil, arith}
use denote.Enum.Bare.{sameb, same_true}
use Rattle.rs_grammar.specs.contracts.kind.TokenKind.{the_type}
use Rattle.rs_grammar.specs.declared.kind.TokenKind.{TokenKind}
use Rattle.rs_grammar.specs.declared.kind.TokenKind.TheVariants as kinds
use Rattle.rs_grammar.specs.Grammar.{rules, Derives, position_form}
use Rattle.rs_grammar.specs.Reading.{Runs}
use Rattle.rs_lexer.specs.declared.token.Token.{Token}
use Rattle.rs_lexer.specs.Lexis.{kinds_of, token_text, IsTokenOf, AreTokensFrom}
use Rattle.rs_lexer.proofs.CutLaws.{cut_inside}
use Rattle.rs_methods.specs.Position.{PositionExpression, beyond}
use Rattle.rs_syntax.specs.declared.written.WrittenValue.TheVariants as written_values
use Rattle.rs_syntax.specs.declared.written.WrittenPosition.{WrittenPosition}
use Rattle.rs_syntax.specs.declared.written.WrittenPosition.TheVariants as written_positions
use Rattle.rs_syntax.specs.Written.{Lexeme, lexemes_of, position_lexemes, value_lexemes, AreToldOf, SaysPosition}
use Rattle.rs_syntax.proofs.VerdictLaws.{told_of}
use Rattle.rs_csv_lines.specs.Fields.{SaysName, SpellsPosition}
use Rattle.rs_csv_lines.proofs.Readings.{derived}

pub kind_is : (kind other : TokenKind) (b : Bool) → b ≡ sameb the_type kind other → b ≡ true → kind ≡ other
kind_is kind other b e is = same_true the_type tt kind other (sym e ∙ is)

only : (items : List Token) (d : Token) → 1 ≤ length items → length items < 2 → items ≡ get_or items 0 d ∷ []
only [] d some few = absurd (omega arith)
only (token ∷ []) d some few = refl
only (token ∷ other ∷ items) d some few = absurd (omega arith)

pub says_name : (text name : List ℕ) (items : List Token) (d : Token) → AreTokensFrom text 0 items → 1 ≤ length items → length items < 2 → (get_or items 0 d).kind ≡ kinds.Name
    → name ≡ token_text text (get_or items 0 d) → SaysName text name
says_name text name items d cut some few kind is = record {
  token = get_or items 0 d;
  cut = subst (AreTokensFrom text 0) (only items d some few) cut;
  kind = kind;
  is = is;
}

-- nothing is left
abbrev IsNone : List Token → Type 0
IsNone rest = length rest < 1

pub whole_spelling : (lexemes whole : List Lexeme) (rest : List Token) → whole ≡ lexemes ++ lexemes_of rest → length rest < 1 → whole ≡ lexemes
whole_spelling lexemes whole [] e none = e ∙ append-nil lexemes
whole_spelling lexemes whole (token ∷ rest) e none = absurd (omega arith)

no_kinds : (rest : List Token) → length rest < 1 → kinds_of rest ≡ []
no_kinds [] none = refl
no_kinds (token ∷ rest) none = absurd (omega arith)

pub told_spelling : (text : List ℕ) (items : List Token) (lexemes : List Lexeme) → AreTokensFrom text 0 items → lexemes_of items ≡ lexemes → AreToldOf text lexemes
told_spelling text items lexemes cut e = subst (AreToldOf text) e (told_of text items (cut_inside text cut))

-- the name of a referent is that of its token
pub referent_name : (text name : List ℕ) (referent : Token) → SpellsPosition text (written_positions.Referent referent) (beyond name 0) → name ≡ token_text text referent
referent_name text name referent spells = let says : beyond name 0 ≡ beyond (token_text text referent) 0 = spells.says in cc

pub number_token : (text : List ℕ) (is_negative : Bool) (digits : Token) → AreToldOf text (value_lexemes (written_values.Whole is_negative digits)) → IsTokenOf text digits
number_token text true digits all = all.1.0.0
number_token text false digits all = all.0.0

pub spells_position : (text : List ℕ) (items rest : List Token) (written : WrittenPosition) (position : PositionExpression) → AreTokensFrom text 0 items
    → Runs position_form (kinds_of items) (Ok (kinds_of rest)) → lexemes_of items ≡ position_lexemes written ++ lexemes_of rest → length rest < 1 → SaysPosition text written position → SpellsPosition text written position
unfolding rules
spells_position text items rest written position cut runs e none says = record {
  tokens = items;
  cut = cut;
  derived = subst (λ ks. Derives position_form (kinds_of items) ks) (no_kinds rest none) (derived runs (kinds_of rest) refl);
  spelled = whole_spelling (position_lexemes written) (lexemes_of items) rest e none;
  says = says;
}
