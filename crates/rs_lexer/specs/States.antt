-- What the bytes so far may be: the states of a machine that accepts the tokens.
use Rattle.rs_grammar.specs.declared.kind.TokenKind.{TokenKind}

pub data State : Type 0 where
  -- no byte yet
  Start : State
  Word : State
  -- digits
  Whole : State
  -- digits and a point
  Point : State
  -- digits, a point, digits
  Decimal : State
  -- a quoted text that is open
  Inside : State
  -- a quoted text that is closed, unless another quote follows
  Behind : State
  Less : State
  Greater : State
  -- a symbol that no other begins with
  Symbol : TokenKind → State
  -- no token begins so
  Dead : State
