-- What the functions of the descent answer.
use Rattle.std.specs.Prelude.{List, [], ◌∷◌, ◌++◌, Option, Some, None, Result, Ok, Err}
use Rattle.std.specs.Borrow.{Bor}
use Rattle.rs_grammar.specs.declared.kind.TokenKind.{TokenKind}
use Rattle.rs_grammar.specs.declared.kind.TokenKind.TheVariants as kinds
use Rattle.rs_lexer.specs.declared.token.Token.{Token}
use Rattle.rs_descent.specs.declared.front.Stop.{Stop}
use Rattle.rs_descent.specs.declared.front.Stop.TheVariants as stops
use Rattle.rs_lexer.specs.Lexis.{kinds_of}
use Rattle.rs_grammar.specs.Grammar.{Form, done, need}
use Rattle.rs_syntax.specs.Written.{Lexeme, mark}
-- how the descent reads by the table
pub use Rattle.rs_grammar.specs.Reading.{Lacks, Runs, is_done, is_fail, takes, skips, through, stops_in, gives_up, StopsAt}

-- the kinds of the tokens at which a function stopped; none where memory ran out
abbrev pub halt_of : Stop → Option (List TokenKind)
halt_of (stops.At rest) = Some (kinds_of rest.now)
halt_of stops.OutOfMemory = None

-- what a function answers is what reading by the form gives
abbrev pub RunsTo : {X : Type 0} → Form → List Token → Result (X × Bor (List Token)) Stop → Type 0
RunsTo form tokens (Ok found) = Runs form (kinds_of tokens) (Ok (kinds_of found.1.now))
RunsTo form tokens (Err stop) = Runs form (kinds_of tokens) (Err (halt_of stop))

-- the items, with a mark after each, and what follows them
abbrev pub leading_lexemes : {A : Type 0} → TokenKind → (A → List Lexeme) → List A → List Lexeme → List Lexeme
leading_lexemes kind lexemes [] more = more
leading_lexemes kind lexemes (item ∷ items) more = lexemes item ++ (mark kind ∷ leading_lexemes kind lexemes items more)

-- Reading what a form begins with: what is read after it decides, or reading stops here.
abbrev pub Begins : {X : Type 0} → (Form → Form) → List Token → Result (X × Bor (List Token)) Stop → Type 0
Begins lead tokens (Ok found) =
    (form : Form) (outcome : Result (List TokenKind) (Option (List TokenKind)))
    → Runs form (kinds_of found.1.now) outcome → Runs (lead form) (kinds_of tokens) outcome
Begins lead tokens (Err stop) = (form : Form) → Runs (lead form) (kinds_of tokens) (Err (halt_of stop))

-- name TO name
abbrev pub renaming_form : Form → Form
renaming_form form = need kinds.Name (need kinds.To (need kinds.Name form))

-- the bracket that closes
abbrev pub closing_form : Form
closing_form = need kinds.RightParen done
