-- What a text says by itself, read as a query.
use Rattle.std.specs.Prelude.{◌≡◌, ℕ, ◌-◌, List, [], ◌∷◌, map}
use Rattle.rs_grammar.specs.Grammar as grammar
use Rattle.rs_grammar.specs.Grammar.{rules, Derives, IsShallow}
use Rattle.rs_lexer.specs.declared.token.Token.{Token}
use Rattle.rs_lexer.specs.Lexis.{kinds_of, AreTokensFrom}
use Rattle.rs_syntax.specs.Tree.{QueryTree}
use Rattle.rs_syntax.specs.Written.{lexeme_of, QuerySyntax, query_lexemes, SaysQuery}

-- where the first of the tokens begins
abbrev pub first_place : List Token → ℕ
first_place [] = 0
first_place (token ∷ tokens) = token.first

-- the tokens of a line as they are in the text that begins with the first of them
abbrev pub from_the_first : List Token → List Token
from_the_first tokens = map (λ token. record { kind = token.kind; first = token.first - first_place tokens; length = token.length }) tokens

-- The text, cut into tokens from its own beginning, is a query of the grammar with no bracket too many, and says
-- this one.
pub record TextSaysQuery (text : List ℕ) (query : QueryTree) : Type 0 where
  pub tokens : List Token
  pub cut : AreTokensFrom text 0 tokens
  pub derived : Derives (rules grammar.query) (kinds_of tokens) []
  pub shallow : IsShallow (kinds_of tokens)
  pub written : QuerySyntax
  pub spelled : map lexeme_of tokens ≡ query_lexemes written
  pub says : SaysQuery text written query
