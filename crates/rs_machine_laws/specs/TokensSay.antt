-- What the tokens of a part of a line say.
use Rattle.std.specs.Prelude.{◌≡◌, ℕ, List, [], ◌∷◌, ◌++◌, drop, map}
use Rattle.rs_lexer.specs.declared.token.Token.{Token}
use Rattle.rs_lexer.specs.Lexis.{AreTokensFrom}
use Rattle.rs_methods.specs.Position.{PositionExpression, absolute, beyond, before, interpolative}
use Rattle.rs_syntax.specs.declared.written.WrittenPosition.{WrittenPosition}
use Rattle.rs_syntax.specs.Written.{lexeme_of, position_lexemes, SaysPosition}
use Rattle.rs_syntax.specs.Sound.{IsName}

-- the line's end, or a blank
abbrev pub IsEndOrBlank : List ℕ → Type 0
IsEndOrBlank [] = Unit {0}
IsEndOrBlank (byte ∷ bytes) = byte ≡ 32

-- From the place on the line is the text, and then its end or a blank.
pub record StandsAt (line : List ℕ) (place : ℕ) (text : List ℕ) : Type 0 where
  pub after : List ℕ
  pub is : drop place line ≡ text ++ after
  pub ends : IsEndOrBlank after

-- The tokens of the line from one place up to another say the position: however the line is cut from there on, its
-- cut has these tokens before, they spell a written position, and that says this one.
pub record TokensSay (line : List ℕ) (first last : ℕ) (position : PositionExpression) : Type 0 where
  pub tokens : List Token
  pub cut : (rest : List Token) → AreTokensFrom line last rest → AreTokensFrom line first (tokens ++ rest)
  pub written : WrittenPosition
  pub spelled : map lexeme_of tokens ≡ position_lexemes written
  pub says : SaysPosition line written position

-- the referent's name is one that a line can say
abbrev pub HasName : PositionExpression → Type 0
HasName (absolute measure) = Unit {0}
HasName (beyond name measure) = IsName name
HasName (before name measure) = IsName name
HasName (interpolative part) = Unit {0}
