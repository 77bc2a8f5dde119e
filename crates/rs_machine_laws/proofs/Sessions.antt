-- The session that a line begins with is one of those that there are.
use Rattle.std.proofs.Common.{◌≡◌, ℕ, ◌<◌, Bool, true, false, ◌&&◌, List, Some, None, length, refl, sym, subst}
use Rattle.std.specs.Prelude.{◌==◌, nat_lt, take, drop, if◌then◌else◌}
use Rattle.std.specs.Str.{all_ascii_digits}
use Rattle.std.proofs.lemmas.Bool.{ltb-true, and_parts}
use Rattle.rs_measure.specs.FixedPoint.{number_of_digits}
use Rattle.rs_machine.specs.declared.limits.TheConstants.{SESSIONS}
use Rattle.rs_machine.specs.Request.{without_return, ends_number, has_session, BeginsWith}
use Rattle.rs_machine_laws.proofs.Names.{some_same, none_some}

has-below : (digits : ℕ) (text : List ℕ) → has_session digits text ≡ true → number_of_digits (take digits text) < SESSIONS
has-below digits text e =
    let whole = and_parts (length (take digits text) == digits && all_ascii_digits (take digits text) && nat_lt (number_of_digits (take digits text)) SESSIONS) (ends_number (drop digits text)) e in
    let number = and_parts (length (take digits text) == digits && all_ascii_digits (take digits text)) (nat_lt (number_of_digits (take digits text)) SESSIONS) whole.0 in
    ltb-true (number_of_digits (take digits text)) SESSIONS number.1

digits-below : (text : List ℕ) (digits : ℕ) (one two : Bool) → has_session 1 text ≡ one → has_session 2 text ≡ two → (if one then Some 1 else if two then Some 2 else None) ≡ Some digits → number_of_digits (take digits text) < SESSIONS
digits-below text digits true two is_one is_two e = subst (λ d. number_of_digits (take d text) < SESSIONS) (some_same 1 digits e) (has-below 1 text is_one)
digits-below text digits false true is_one is_two e = subst (λ d. number_of_digits (take d text) < SESSIONS) (some_same 2 digits e) (has-below 2 text is_two)
digits-below text digits false false is_one is_two e = none_some digits e

pub session_below : (line : List ℕ) (session digits : ℕ) → BeginsWith line session digits → session < SESSIONS
session_below line session digits begins =
    subst (λ n. n < SESSIONS) (sym begins.session_is) (digits-below (without_return line) digits (has_session 1 (without_return line)) (has_session 2 (without_return line)) refl refl begins.begins)
