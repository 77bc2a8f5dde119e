-- Which texts are names.
use Rattle.std.specs.Prelude.{◌≡◌, ℕ, ◌≤◌, List, length, None}
use Rattle.rs_grammar.specs.declared.kind.TheConstants.{NAME_BYTES}
use Rattle.rs_grammar.specs.Words.{IsWord}
use Rattle.rs_lexer.specs.Lexis.{kind_in, reserved}

-- A name: a word of at most NAME_BYTES bytes that is not reserved.
pub record IsName (name : List ℕ) : Type 0 where
  pub word : IsWord name
  pub short : length name ≤ NAME_BYTES
  pub not_reserved : kind_in reserved name ≡ None
