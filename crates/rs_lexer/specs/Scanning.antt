-- A machine that accepts the tokens: what its states are after some bytes, and what tokens they lead to.
use Rattle.std.specs.Prelude.{◌≡◌, ℕ, ◌<◌, ◌≤◌, Bool, true, false, ◌==◌, List, [], ◌∷◌, length, take, map, Option, Some, None, if◌then◌else◌}
use Rattle.std.specs.Char.{is_ascii_alphabetic, is_ascii_digit}
use Rattle.std.specs.List.{list_all}
use Rattle.rs_grammar.specs.declared.kind.TokenKind.{TokenKind}
use Rattle.rs_grammar.specs.declared.kind.TokenKind.TheVariants as kinds
use Rattle.rs_grammar.specs.declared.kind.Reserved.{Reserved}
use Rattle.rs_lexer.specs.States.{State}
use Rattle.rs_lexer.specs.States as states
use Rattle.rs_grammar.specs.Words.{is_word_byte}
use Rattle.rs_lexer.specs.Lexis.{word_kind, is_whole, is_fraction, is_quoted_rest, single_kind, less_kind, greater_kind, alone, token_kind}

-- the rows of a table of reserved words
abbrev pub rows_of : List Reserved → List (List ℕ × TokenKind)
rows_of table = map (λ row. (row.word.now, row.kind)) table

abbrev pub symbol_state : Option TokenKind → State
symbol_state None = states.Dead
symbol_state (Some kind) = states.Symbol kind

abbrev pub after_start : ℕ → State
after_start byte =
    if is_ascii_alphabetic byte then states.Word
    else if is_ascii_digit byte then states.Whole
    else if byte == 39 then states.Inside
    else if byte == 60 then states.Less
    else if byte == 62 then states.Greater
    else symbol_state (single_kind byte)

abbrev pub after : State → ℕ → State
after states.Start byte = after_start byte
after states.Word byte = if is_word_byte byte then states.Word else states.Dead
after states.Whole byte = if is_ascii_digit byte then states.Whole else if byte == 46 then states.Point else states.Dead
after states.Point byte = if is_ascii_digit byte then states.Decimal else states.Dead
after states.Decimal byte = if is_ascii_digit byte then states.Decimal else states.Dead
after states.Inside byte = if byte == 39 then states.Behind else states.Inside
after states.Behind byte = if byte == 39 then states.Inside else states.Dead
after states.Less byte = if byte == 61 then states.Symbol kinds.LessOrEqual else if byte == 62 then states.Symbol kinds.Unequal else states.Dead
after states.Greater byte = if byte == 61 then states.Symbol kinds.GreaterOrEqual else states.Dead
after (states.Symbol kind) byte = states.Dead
after states.Dead byte = states.Dead

-- the state after some bytes
abbrev pub run : State → List ℕ → State
run state [] = state
run state (byte ∷ bytes) = run (after state byte) bytes

abbrev pub accepts : State → Bool
accepts states.Start = false
accepts states.Word = true
accepts states.Whole = true
accepts states.Point = false
accepts states.Decimal = true
accepts states.Inside = false
accepts states.Behind = true
accepts states.Less = true
accepts states.Greater = true
accepts (states.Symbol kind) = true
accepts states.Dead = false

-- the kind of a text that led to the state
abbrev pub kind_at : State → List ℕ → Option TokenKind
kind_at states.Start text = None
kind_at states.Word text = Some (word_kind text)
kind_at states.Whole text = Some kinds.Whole
kind_at states.Point text = None
kind_at states.Decimal text = Some kinds.Decimal
kind_at states.Inside text = None
kind_at states.Behind text = Some kinds.Quoted
kind_at states.Less text = Some kinds.Less
kind_at states.Greater text = Some kinds.Greater
kind_at (states.Symbol kind) text = Some kind
kind_at states.Dead text = None

-- So many of the bytes, after those that led to the state, are the rest of the longest token, and it is of this kind.
pub record IsLongestRest (state : State) (rest : List ℕ) (kind : TokenKind) (count : ℕ) : Type 0 where
  pub inside : count ≤ length rest
  pub says : (text : List ℕ) → kind_at (run state (take count rest)) text ≡ Some kind
  pub longest : (longer : ℕ) → count < longer → longer ≤ length rest → accepts (run state (take longer rest)) ≡ false

abbrev pub some_if : Bool → TokenKind → Option TokenKind
some_if test kind = if test then Some kind else None

-- The kind of a text of which some bytes led to the state and these are left.
abbrev pub kind_from : State → List ℕ → List ℕ → Option TokenKind
kind_from states.Start text left = token_kind left
kind_from states.Word text left = some_if (list_all is_word_byte left) (word_kind text)
kind_from states.Whole text left = if list_all is_ascii_digit left then Some kinds.Whole else some_if (is_fraction left) kinds.Decimal
kind_from states.Point text left = some_if (is_whole left) kinds.Decimal
kind_from states.Decimal text left = some_if (list_all is_ascii_digit left) kinds.Decimal
kind_from states.Inside text left = some_if (is_quoted_rest false left) kinds.Quoted
kind_from states.Behind text left = some_if (is_quoted_rest true left) kinds.Quoted
kind_from states.Less text left = less_kind left
kind_from states.Greater text left = greater_kind left
kind_from (states.Symbol kind) text left = alone (Some kind) left
kind_from states.Dead text left = None
