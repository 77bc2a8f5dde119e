-- What a line asks: its refusal as a line, or its session and its command.
use Rattle.std.specs.Prelude.{◌≡◌, ℕ, Bool, true, not, ◌&&◌, ◌==◌, nat_lt, List, [], ◌∷◌, length, take, drop, Option, Some, None, Result, Ok, Err, if◌then◌else◌}
use Rattle.std.specs.Str.{all_ascii_digits}
use Rattle.rs_refusal.specs.declared.refusal.Refusal.{Refusal}
use Rattle.rs_refusal.specs.declared.refusal.Refusal.TheVariants.{LineIsNotText, LineTooLong, SessionNumber}
use Rattle.rs_measure.specs.FixedPoint.{number_of_digits}
pub use Rattle.rs_value.specs.Values.{is_control, is_text}
use Rattle.rs_syntax.specs.Tree.{CommandTree}
use Rattle.rs_syntax.specs.Verdict.{Reads}
use Rattle.rs_machine.specs.declared.limits.TheConstants.{LINE_BYTES, SESSIONS}

abbrev pub CARRIAGE_RETURN : ℕ
CARRIAGE_RETURN = 13

abbrev pub SPACE : ℕ
SPACE = 32

-- the line without the one CR that may stand before its LF
abbrev pub without_return : List ℕ → List ℕ
without_return [] = []
without_return (byte ∷ []) = if byte == CARRIAGE_RETURN then [] else byte ∷ []
without_return (byte ∷ next ∷ bytes) = byte ∷ without_return (next ∷ bytes)

-- the end, or a space
abbrev pub ends_number : List ℕ → Bool
ends_number [] = true
ends_number (byte ∷ bytes) = byte == SPACE

-- so many digits from the first byte on, of a number below 64, and then the end or a space
abbrev pub has_session : ℕ → List ℕ → Bool
has_session digits text = length (take digits text) == digits && all_ascii_digits (take digits text)
    && nat_lt (number_of_digits (take digits text)) SESSIONS && ends_number (drop digits text)

-- in how many digits the session stands, one or two
abbrev pub session_digits : List ℕ → Option ℕ
session_digits text = if has_session 1 text then Some 1 else if has_session 2 text then Some 2 else None

-- Too long comes first, then what is no text, then the session.
abbrev pub line_refusal : List ℕ → Option Refusal
line_refusal line =
    if nat_lt LINE_BYTES (length line) then Some LineTooLong
    else if not (is_text (without_return line)) then Some LineIsNotText
    else missing_session (session_digits (without_return line))
  where
    missing_session : Option ℕ → Option Refusal
    missing_session None = Some SessionNumber
    missing_session (Some digits) = None

pub data Request : Type 0 where
  -- refused as a line, under session 0
  unreadable : Refusal → Request
  -- a session's line that is no command
  no_command : ℕ → Refusal → Request
  -- a session's command
  command : ℕ → CommandTree → Request

-- the session that a line begins with, in so many digits
pub record BeginsWith (line : List ℕ) (session digits : ℕ) : Type 0 where
  pub is_readable : line_refusal line ≡ None
  pub begins : session_digits (without_return line) ≡ Some digits
  pub session_is : session ≡ number_of_digits (take digits (without_return line))

-- the session that a line begins with, and what its text says after it
pub record SessionReads (line : List ℕ) (session : ℕ) (answer : Result CommandTree Refusal) : Type 0 where
  pub digits : ℕ
  pub begins : BeginsWith line session digits
  pub reads : Reads (without_return line) digits answer

-- what a line asks
abbrev pub Asks : List ℕ → Request → Type 0
Asks line (unreadable refusal) = line_refusal line ≡ Some refusal
Asks line (no_command session refusal) = SessionReads line session (Err refusal)
Asks line (command session tree) = SessionReads line session (Ok tree)
