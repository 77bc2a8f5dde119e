-- Kinds of tokens by their lexemes, and kinds that open and close no bracket.
use Rattle.std.proofs.Common.{◌≡◌, ◌∙◌, ℕ, ◌≤◌, Bool, true, false, List, [], ◌∷◌, map, refl, sym, ap, subst, arith, le-leb}
use Rattle.std.specs.Prelude.{if◌then◌else◌}
use Rattle.std.proofs.lemmas.Bool.{false≢true}
use Rattle.rs_grammar.specs.declared.kind.TokenKind.{TokenKind}
use Rattle.rs_grammar.specs.declared.kind.TokenKind.TheVariants as kinds
use Rattle.rs_grammar.specs.declared.kind.TheConstants.{BRACKETS}
use Rattle.rs_grammar.specs.Grammar.{open_after, is_shallow}
use Rattle.rs_lexer.specs.declared.token.Token.{Token}
use Rattle.rs_lexer.specs.Lexis.{kinds_of}
use Rattle.rs_syntax.specs.Written.{Lexeme, mark, told, has_text, lexeme_of, lexemes_of}

abbrev pub lexeme_kind : Lexeme → TokenKind
lexeme_kind (mark kind) = kind
lexeme_kind (told kind token) = kind

kind_of_lexeme : (token : Token) → lexeme_kind (lexeme_of token) ≡ token.kind
kind_of_lexeme token = elim (has_text token.kind) as (λ b. lexeme_kind (if b then told token.kind token else mark token.kind) ≡ token.kind) [ true ↦ refl | false ↦ refl ]

-- the kinds of tokens that are spelled so
pub kinds_spelled : (tokens : List Token) (lexemes : List Lexeme) → lexemes_of tokens ≡ lexemes → kinds_of tokens ≡ map lexeme_kind lexemes
kinds_spelled tokens lexemes e = sym (each tokens) ∙ ap (map lexeme_kind) e
  where
    each : (tokens : List Token) → map lexeme_kind (lexemes_of tokens) ≡ kinds_of tokens
    each [] = refl
    each (token ∷ tokens) = ap (λ k. k ∷ map lexeme_kind (lexemes_of tokens)) (kind_of_lexeme token) ∙ ap (λ ks. token.kind ∷ ks) (each tokens)

-- what is told has a text
abbrev pub HaveTexts : List Lexeme → Type 0
HaveTexts [] = Unit {0}
HaveTexts (mark kind ∷ lexemes) = HaveTexts lexemes
HaveTexts (told kind token ∷ lexemes) = (has_text kind ≡ true) × HaveTexts lexemes

pub have_texts : (tokens : List Token) (lexemes : List Lexeme) → lexemes_of tokens ≡ lexemes → HaveTexts lexemes
have_texts tokens lexemes e = subst HaveTexts e (each tokens)
  where
    first : (token : Token) (b : Bool) (lexemes : List Lexeme) → has_text token.kind ≡ b → HaveTexts lexemes → HaveTexts ((if b then told token.kind token else mark token.kind) ∷ lexemes)
    first token true lexemes is have = (is, have)
    first token false lexemes is have = have

    each : (tokens : List Token) → HaveTexts (lexemes_of tokens)
    each [] = tt
    each (token ∷ tokens) = first token (has_text token.kind) (lexemes_of tokens) refl (each tokens)

-- the lexeme of a token that has a text
pub told_piece : (token : Token) → has_text token.kind ≡ true → lexeme_of token ≡ told token.kind token
told_piece token is = ap (λ b. if b then told token.kind token else mark token.kind) is

-- ---- brackets

abbrev is_flat : TokenKind → Bool
is_flat kinds.LeftParen = false
is_flat kinds.RightParen = false
is_flat _ = true

flat_text : (kind : TokenKind) → has_text kind ≡ true → is_flat kind ≡ true
flat_text kinds.LeftParen e = absurd (false≢true e)
flat_text kinds.RightParen e = absurd (false≢true e)
flat_text _ e = refl

open_flat : (open_before : ℕ) (kind : TokenKind) → is_flat kind ≡ true → open_after open_before kind ≡ open_before
open_flat open_before kinds.LeftParen e = absurd (false≢true e)
open_flat open_before kinds.RightParen e = absurd (false≢true e)
open_flat open_before _ e = refl

-- at most one bracket is open, and so it stays
pub flat : (kind : TokenKind) (open_before : ℕ) (more : List TokenKind) → is_flat kind ≡ true → open_before ≤ 1 → is_shallow open_before more ≡ true → is_shallow open_before (kind ∷ more) ≡ true
flat kind open_before more is few shallow =
    let few_enough : open_before ≤ BRACKETS = omega arith in
    rw (open_flat open_before kind is, le-leb open_before BRACKETS few_enough) shallow

pub flat_told : (kind : TokenKind) (open_before : ℕ) (more : List TokenKind) → has_text kind ≡ true → open_before ≤ 1 → is_shallow open_before more ≡ true → is_shallow open_before (kind ∷ more) ≡ true
flat_told kind open_before more is = flat kind open_before more (flat_text kind is)
