-- What a token is, and how a line is cut into tokens.
use Rattle.std.specs.Prelude.{◌≡◌, ℕ, ◌+◌, ◌<◌, ◌≤◌, Bool, true, false, ◌==◌, nat_le, List, [], ◌∷◌, length, take, drop, map, slice_index, Option, Some, None, unwrap_or, if◌then◌else◌, codes}
use Rattle.std.specs.Char.{is_ascii_alphabetic, is_ascii_digit}
use Rattle.std.specs.List.{list_all}
use Rattle.std.specs.Str.{bytes_eq}
use Rattle.rs_grammar.specs.declared.kind.TheConstants.{NAME_BYTES}
use Rattle.rs_grammar.specs.declared.kind.TokenKind.{TokenKind}
use Rattle.rs_grammar.specs.declared.kind.TokenKind.TheVariants as kinds
use Rattle.rs_grammar.specs.Words.{is_word_byte}
use Rattle.rs_lexer.specs.declared.token.Token.{Token}

-- the reserved words
unfoldable pub reserved : List (List ℕ × TokenKind)
reserved =
    (codes "ABSOLUTE", kinds.Absolute) ∷
    (codes "ALIGNMENT", kinds.Alignment) ∷
    (codes "AND", kinds.And) ∷
    (codes "AS", kinds.As) ∷
    (codes "AT", kinds.At) ∷
    (codes "BY", kinds.By) ∷
    (codes "CLOSE", kinds.Close) ∷
    (codes "COVER", kinds.Cover) ∷
    (codes "DEFINE", kinds.Define) ∷
    (codes "DISSOLVE", kinds.Dissolve) ∷
    (codes "DROP", kinds.Drop) ∷
    (codes "EXPLAIN", kinds.Explain) ∷
    (codes "FETCH", kinds.Fetch) ∷
    (codes "FOR", kinds.For) ∷
    (codes "FROM", kinds.From) ∷
    (codes "GAPS", kinds.Gaps) ∷
    (codes "INDEX", kinds.Index) ∷
    (codes "INSERT", kinds.Insert) ∷
    (codes "INT", kinds.Int) ∷
    (codes "INTERPOLATIVE", kinds.Interpolative) ∷
    (codes "INTO", kinds.Into) ∷
    (codes "IS", kinds.Is) ∷
    (codes "LINE", kinds.Line) ∷
    (codes "MERGE", kinds.Merge) ∷
    (codes "MINUS", kinds.Minus) ∷
    (codes "MOVE", kinds.Move) ∷
    (codes "NOT", kinds.Not) ∷
    (codes "NULL", kinds.Null) ∷
    (codes "ON", kinds.On) ∷
    (codes "OPEN", kinds.Open) ∷
    (codes "OR", kinds.Or) ∷
    (codes "OVERLAY", kinds.Overlay) ∷
    (codes "POINT", kinds.Point) ∷
    (codes "REFERENT", kinds.Referent) ∷
    (codes "RELATIVE", kinds.Relative) ∷
    (codes "REMOVE", kinds.Remove) ∷
    (codes "RENAME", kinds.Rename) ∷
    (codes "REOPEN", kinds.Reopen) ∷
    (codes "ROUTE", kinds.Route) ∷
    (codes "SAVE", kinds.Save) ∷
    (codes "SELECT", kinds.Select) ∷
    (codes "SUM", kinds.Sum) ∷
    (codes "TABLE", kinds.Table) ∷
    (codes "TEXT", kinds.Text) ∷
    (codes "TO", kinds.To) ∷
    (codes "TOTAL", kinds.Total) ∷
    (codes "TRANSFORM", kinds.Transform) ∷
    (codes "TRANSLATE", kinds.Translate) ∷
    (codes "VALUES", kinds.Values) ∷
    (codes "VIEW", kinds.View) ∷
    (codes "WHERE", kinds.Where) ∷
    (codes "WINDOW", kinds.Window) ∷
    []

-- the kind beside a word
abbrev pub kind_in : List (List ℕ × TokenKind) → List ℕ → Option TokenKind
kind_in [] word = None
kind_in (row ∷ rows) word = if bytes_eq row.0 word then Some row.1 else kind_in rows word

-- a reserved word, else a name, unless it is too long for one
unfoldable pub word_kind : List ℕ → TokenKind
word_kind word = unwrap_or (kind_in reserved word) (if nat_le (length word) NAME_BYTES then kinds.Name else kinds.LongWord)

-- one or more digits
abbrev pub is_whole : List ℕ → Bool
is_whole [] = false
is_whole (byte ∷ bytes) = if is_ascii_digit byte then list_all is_ascii_digit bytes else false

-- digits, perhaps none, a point, and one or more digits
abbrev pub is_fraction : List ℕ → Bool
is_fraction [] = false
is_fraction (byte ∷ bytes) = if is_ascii_digit byte then is_fraction bytes else if byte == 46 then is_whole bytes else false

-- What follows the opening quote: any bytes, each quote among them doubled, and the closing quote.
-- Directly after a quote the text may end there, or that quote is doubled by the next.
abbrev pub is_quoted_rest : (behind_quote : Bool) → List ℕ → Bool
is_quoted_rest behind_quote [] = behind_quote
is_quoted_rest true (byte ∷ bytes) = if byte == 39 then is_quoted_rest false bytes else false
is_quoted_rest false (byte ∷ bytes) = is_quoted_rest (byte == 39) bytes

-- symbols of one byte that begin no other symbol
abbrev pub single_kind : ℕ → Option TokenKind
single_kind byte =
    if byte == 40 then Some kinds.LeftParen
    else if byte == 41 then Some kinds.RightParen
    else if byte == 44 then Some kinds.Comma
    else if byte == 61 then Some kinds.Equal
    else if byte == 43 then Some kinds.PlusSign
    else if byte == 45 then Some kinds.MinusSign
    else if byte == 64 then Some kinds.AtSign
    else if byte == 37 then Some kinds.PercentSign
    else None

-- the symbols that begin with <, by what follows it
abbrev pub less_kind : List ℕ → Option TokenKind
less_kind [] = Some kinds.Less
less_kind (byte ∷ []) = if byte == 61 then Some kinds.LessOrEqual else if byte == 62 then Some kinds.Unequal else None
less_kind (byte ∷ other ∷ bytes) = None

-- the symbols that begin with >, by what follows it
abbrev pub greater_kind : List ℕ → Option TokenKind
greater_kind [] = Some kinds.Greater
greater_kind (byte ∷ []) = if byte == 61 then Some kinds.GreaterOrEqual else None
greater_kind (byte ∷ other ∷ bytes) = None

-- nothing follows
abbrev pub alone : Option TokenKind → List ℕ → Option TokenKind
alone kind [] = kind
alone kind (byte ∷ bytes) = None

-- What kind of token a text is, by its first byte; none where it is no token.
unfoldable pub token_kind : List ℕ → Option TokenKind
token_kind [] = None
token_kind (byte ∷ bytes) =
    if is_ascii_alphabetic byte then (if list_all is_word_byte bytes then Some (word_kind (byte ∷ bytes)) else None)
    else if is_ascii_digit byte then (if list_all is_ascii_digit bytes then Some kinds.Whole else if is_fraction bytes then Some kinds.Decimal else None)
    else if byte == 39 then (if is_quoted_rest false bytes then Some kinds.Quoted else None)
    else if byte == 60 then less_kind bytes
    else if byte == 62 then greater_kind bytes
    else alone (single_kind byte) bytes

-- the kinds of some tokens
abbrev pub kinds_of : List Token → List TokenKind
kinds_of tokens = map (λ token. token.kind) tokens

-- the bytes of a token of the line
abbrev pub token_text : List ℕ → Token → List ℕ
token_text line token = take token.length (drop token.first line)

-- the token is in the line, and is what its bytes are
pub record IsTokenOf (line : List ℕ) (token : Token) : Type 0 where
  pub inside : token.first + token.length ≤ length line
  pub kind : token_kind (token_text line token) ≡ Some token.kind

-- a token at the front of the bytes, and no longer front is one
pub record IsLongestToken (bytes : List ℕ) (kind : TokenKind) (count : ℕ) : Type 0 where
  pub inside : count ≤ length bytes
  pub token : token_kind (take count bytes) ≡ Some kind
  pub longest : (longer : ℕ) → count < longer → longer ≤ length bytes → token_kind (take longer bytes) ≡ None

-- The line from a place on, cut into tokens: at each place the end, a blank, or the longest token.
pub data AreTokensFrom (line : List ℕ) : ℕ → List Token → Type 0 where
  at_end : {place : ℕ} → length line ≤ place → AreTokensFrom line place []
  at_blank : {place : ℕ} {tokens : List Token} → place < length line → slice_index line place ≡ 32
      → AreTokensFrom line (place + 1) tokens → AreTokensFrom line place tokens
  at_token : {place : ℕ} {tokens : List Token} (kind : TokenKind) (count : ℕ) → IsLongestToken (drop place line) kind count
      → AreTokensFrom line (place + count) tokens → AreTokensFrom line place (record { kind = kind; first = place; length = count } ∷ tokens)
