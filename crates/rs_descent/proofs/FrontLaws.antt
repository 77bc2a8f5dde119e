-- What the token at the front of some tokens says of them.
use Rattle.std.proofs.Common.{◌≡◌, ◌<◌, true, false, List, [], ◌∷◌, length, sym, ap, ◌∙◌, subst, arith}
use Rattle.std.specs.Prelude.{if◌then◌else◌}
use Rattle.rs_grammar.specs.declared.kind.TokenKind.{TokenKind}
use Rattle.rs_lexer.specs.declared.token.Token.{Token}
use Rattle.rs_lexer.specs.Lexis.{kinds_of}
use Rattle.rs_syntax.specs.Written.{mark, told, has_text, lexemes_of}
use Rattle.rs_descent.specs.Reading.{Lacks}

-- where there is no token
pub none-lacks : (kind : TokenKind) (tokens : List Token) → length tokens ≡ 0 → Lacks kind (kinds_of tokens)
none-lacks kind [] none = tt
none-lacks kind (token ∷ tokens) none = absurd (omega arith)

module _ (kind : TokenKind) (tokens rest : List Token) (first : Token) (front : tokens ≡ first ∷ rest) where
  -- where the first token is of another kind
  pub other-lacks : (first.kind ≡ kind → ⊥) → Lacks kind (kinds_of tokens)
  other-lacks other = subst (λ ts. Lacks kind (kinds_of ts)) (sym front) other

  pub front-shorter : length rest < length tokens
  front-shorter = let same = ap length front in omega arith

  -- where it is of this kind
  pub front-found : first.kind ≡ kind → kinds_of tokens ≡ kind ∷ kinds_of rest
  front-found same = ap kinds_of front ∙ ap (λ k. k ∷ kinds_of rest) same

  pub mark-spelled : first.kind ≡ kind → has_text kind ≡ false → lexemes_of tokens ≡ mark kind ∷ lexemes_of rest
  mark-spelled same none =
      ap lexemes_of front
      ∙ ap (λ k. (if has_text k then told k first else mark k) ∷ lexemes_of rest) same
      ∙ ap (λ b. (if b then told kind first else mark kind) ∷ lexemes_of rest) none

  pub text-spelled : first.kind ≡ kind → has_text kind ≡ true → lexemes_of tokens ≡ told kind first ∷ lexemes_of rest
  text-spelled same some =
      ap lexemes_of front
      ∙ ap (λ k. (if has_text k then told k first else mark k) ∷ lexemes_of rest) same
      ∙ ap (λ b. (if b then told kind first else mark kind) ∷ lexemes_of rest) some
