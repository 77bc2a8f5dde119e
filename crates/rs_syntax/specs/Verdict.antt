-- What the text of a line is: a command, or which refusal.
use Rattle.std.specs.Prelude.{◌≡◌, ℕ, ◌+◌, ◌<◌, ◌≤◌, ◌⊎◌, List, [], ◌∷◌, length, take, drop, map, Result, Ok, Err}
use Rattle.rs_refusal.specs.declared.refusal.Refusal.{Refusal}
use Rattle.rs_refusal.specs.declared.refusal.Refusal.TheVariants.{UnknownCharacter, Syntax, NumberOutOfRange}
use Rattle.rs_grammar.specs.declared.kind.TokenKind.{TokenKind}
use Rattle.rs_lexer.specs.declared.token.Token.{Token}
use Rattle.rs_lexer.specs.Lexis.{kinds_of, AreTokensFrom}
use Rattle.rs_grammar.specs.Grammar.{IsCommand, IsViable, IsShallow}
use Rattle.rs_syntax.specs.Tree.{CommandTree}
use Rattle.rs_syntax.specs.Written.{Written, lexeme_of, spelling, Says}

-- The column, from 1, of the first of these tokens; after the line's last byte where there is none.
abbrev pub fault_column : List ℕ → List Token → ℕ
fault_column line [] = length line + 1
fault_column line (token ∷ tokens) = token.first + 1

-- The token at this place is the first that fits no rule: some command begins with those before it; with it none
-- does, or it opens a bracket too many. After the last token: they are no command.
pub record FitsNoRule (tokens : List TokenKind) (place : ℕ) : Type 0 where
  pub inside : place ≤ length tokens
  pub viable : IsViable (take place tokens)
  pub shallow : IsShallow (take place tokens)
  pub stops : place < length tokens → (IsViable (take (place + 1) tokens) → ⊥) ⊎ (IsShallow (take (place + 1) tokens) → ⊥)
  pub ends : place ≡ length tokens → IsCommand tokens → ⊥

-- the tokens are a command, and this is how it is written
pub record IsWritten (tokens : List Token) (written : Written) : Type 0 where
  pub command : IsCommand (kinds_of tokens)
  pub shallow : IsShallow (kinds_of tokens)
  pub spelled : map lexeme_of tokens ≡ spelling written

-- What the tokens of a line are: 11 comes before 12.
pub data Parses (line : List ℕ) (tokens : List Token) : Result CommandTree Refusal → Type 0 where
  is_fault : (place : ℕ) → FitsNoRule (kinds_of tokens) place → Parses line tokens (Err (Syntax (fault_column line (drop place tokens))))
  is_command : (written : Written) (tree : CommandTree) → IsWritten tokens written → Says line tokens written tree → Parses line tokens (Ok tree)
  is_out_of_range : (written : Written) → IsWritten tokens written → ((tree : CommandTree) → Says line tokens written tree → ⊥) → Parses line tokens (Err NumberOutOfRange)

-- What the text of a line is from a byte place on: 10 comes before all else.
pub data Reads (line : List ℕ) (from : ℕ) : Result CommandTree Refusal → Type 0 where
  has_no_tokens : ((tokens : List Token) → AreTokensFrom line from tokens → ⊥) → Reads line from (Err UnknownCharacter)
  has_tokens : (tokens : List Token) (answer : Result CommandTree Refusal) → AreTokensFrom line from tokens → Parses line tokens answer → Reads line from answer
