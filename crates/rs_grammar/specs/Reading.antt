-- How the descent reads by the table, with one token ahead.
use Rattle.std.specs.Prelude.{◌≡◌, ◌<◌, ◌⊎◌, length, List, [], ◌∷◌, Option, Some, None, Result, Ok, Err}
use Rattle.rs_grammar.specs.declared.kind.TokenKind.{TokenKind}
use Rattle.rs_grammar.specs.Grammar.{Part, Form, done, fail, pick, sub, command_form, rules}

-- the next token, if there is one, is of another kind
abbrev pub Lacks : TokenKind → List TokenKind → Type 0
Lacks kind [] = Unit {0}
Lacks kind (first ∷ others) = first ≡ kind → ⊥

-- Reading by a form: what is left after it; or the tokens from the first on that it can't go on with,
-- and none where memory ran out.
pub data Runs : Form → List TokenKind → Result (List TokenKind) (Option (List TokenKind)) → Type 0 where
  is_done : {tokens : List TokenKind} → Runs done tokens (Ok tokens)
  is_fail : {tokens : List TokenKind} → Runs fail tokens (Err (Some tokens))
  takes : {kind : TokenKind} {form other : Form} {tokens : List TokenKind} {outcome : Result (List TokenKind) (Option (List TokenKind))}
      → Runs form tokens outcome → Runs (pick kind form other) (kind ∷ tokens) outcome
  skips : {kind : TokenKind} {form other : Form} {tokens : List TokenKind} {outcome : Result (List TokenKind) (Option (List TokenKind))}
      → Lacks kind tokens → Runs other tokens outcome → Runs (pick kind form other) tokens outcome
  through : {p : Part} {form : Form} {tokens middle : List TokenKind} {outcome : Result (List TokenKind) (Option (List TokenKind))}
      → Runs (rules p) tokens (Ok middle) → Runs form middle outcome → Runs (sub p form) tokens outcome
  stops_in : {p : Part} {form : Form} {tokens : List TokenKind} {halt : Option (List TokenKind)}
      → Runs (rules p) tokens (Err halt) → Runs (sub p form) tokens (Err halt)
  gives_up : {form : Form} {tokens : List TokenKind} → Runs form tokens (Err None)

-- reading the tokens as a command stops here, or leaves these
abbrev pub StopsAt : List TokenKind → Option (List TokenKind) → Type 0
StopsAt tokens None = Unit {0}
StopsAt tokens (Some left) = ((0 < length left) × Runs command_form tokens (Ok left)) ⊎ Runs command_form tokens (Err (Some left))
