-- A line asks one thing.
use Rattle.std.proofs.Common.{◌≡◌, ℕ, List, take, Some, None, Result, Ok, Err, sym, ap, ◌∙◌, subst}
use Rattle.rs_refusal.specs.declared.refusal.Refusal.{Refusal}
use Rattle.rs_measure.specs.FixedPoint.{number_of_digits}
use Rattle.rs_syntax.specs.Tree.{CommandTree}
use Rattle.rs_syntax.specs.Verdict.{Reads}
use Rattle.rs_machine.specs.Request.{Request, unreadable, no_command, command, Asks, SessionReads, line_refusal, without_return}
use Rattle.rs_protocol.specs.Laws.{ReadsOneThing}

-- two readings of a session's line
record SameReading (session other : ℕ) (said told : Result CommandTree Refusal) : Type 0 where
  sessions : session ≡ other
  answers : said ≡ told

same_reading : ReadsOneThing → (line : List ℕ) (session other : ℕ) (said told : Result CommandTree Refusal) → SessionReads line session said → SessionReads line other told
    → SameReading session other said told
same_reading one line session other said told reads reads' =
    let both : Some reads.digits ≡ Some reads'.digits = sym reads.begins.begins ∙ reads'.begins.begins in
    let digits : reads.digits ≡ reads'.digits = cc in
    record {
      sessions = reads.begins.session_is ∙ ap (λ n. number_of_digits (take n (without_return line))) digits ∙ sym reads'.begins.session_is;
      answers = one (without_return line) reads'.digits said told (subst (λ n. Reads (without_return line) n said) digits reads.reads) reads'.reads;
    }

unread : (line : List ℕ) (refusal : Refusal) → line_refusal line ≡ Some refusal → line_refusal line ≡ None → ⊥
unread line refusal refused readable = let both : None ≡ Some refusal = sym readable ∙ refused in cc

pub asks_one_thing : ReadsOneThing → (line : List ℕ) (one other : Request) → Asks line one → Asks line other → one ≡ other
asks_one_thing one line (unreadable refusal) (unreadable refusal') asks asks' = let both : Some refusal ≡ Some refusal' = sym asks ∙ asks' in cc
asks_one_thing one line (unreadable refusal) (no_command session refusal') asks asks' = absurd (unread line refusal asks asks'.begins.is_readable)
asks_one_thing one line (unreadable refusal) (command session tree) asks asks' = absurd (unread line refusal asks asks'.begins.is_readable)
asks_one_thing one line (no_command session refusal) (unreadable refusal') asks asks' = absurd (unread line refusal' asks' asks.begins.is_readable)
asks_one_thing one line (no_command session refusal) (no_command session' refusal') asks asks' =
    let same : SameReading session session' (Err refusal) (Err refusal') = same_reading one line session session' (Err refusal) (Err refusal') asks asks' in
    cc
asks_one_thing one line (no_command session refusal) (command session' tree) asks asks' =
    let same : SameReading session session' (Err refusal) (Ok tree) = same_reading one line session session' (Err refusal) (Ok tree) asks asks' in
    cc
asks_one_thing one line (command session tree) (unreadable refusal) asks asks' = absurd (unread line refusal asks' asks.begins.is_readable)
asks_one_thing one line (command session tree) (no_command session' refusal) asks asks' =
    let same : SameReading session session' (Ok tree) (Err refusal) = same_reading one line session session' (Ok tree) (Err refusal) asks asks' in
    cc
asks_one_thing one line (command session tree) (command session' tree') asks asks' =
    let same : SameReading session session' (Ok tree) (Ok tree') = same_reading one line session session' (Ok tree) (Ok tree') asks asks' in
    cc
