-- A line that begins with the digits of a session, and is text, is that session's.
use Rattle.std.proofs.Common.{◌≡◌, ◌∙◌, ℕ, ◌+◌, ◌-◌, ◌*◌, ◌/◌, ◌%◌, ◌<◌, ◌≤◌, Bool, true, false, ◌&&◌, ◌||◌, List, [], ◌∷◌, ◌++◌, length, take, Some, None, Ok, refl, sym, ap, subst, arith}
use Rattle.std.specs.Prelude.{◌==◌, nat_lt, if◌then◌else◌}
use Rattle.std.specs.Char.{is_ascii_digit}
use Rattle.std.specs.Str.{all_ascii_digits}
use Rattle.std.proofs.lemmas.Bool.{ltb-true, false≢true}
use Rattle.std.proofs.lemmas.Bool.Decides.{nat_tests}
use Rattle.rs_measure.specs.FixedPoint.{number_of_digits}
use Rattle.rs_syntax.specs.Tree.{CommandTree}
use Rattle.rs_syntax.specs.Verdict.{Reads}
use Rattle.rs_machine.specs.declared.limits.TheConstants.{LINE_BYTES, SESSIONS}
use Rattle.rs_machine.specs.Request.{is_text, without_return, has_session, session_digits, line_refusal, Asks, command}
use Rattle.std.specs.List.{list_any}
use Rattle.rs_value.specs.Values.{is_control}
use Rattle.rs_csv_lines.specs.Texts.{session_text}
use Rattle.rs_csv_lines.proofs.Clean.{clean_text}

digit_true : (k : ℕ) → k < 10 → is_ascii_digit (48 + k) ≡ true
digit_true k few = grind (arith, nat_tests)

lt_true : (m n : ℕ) → m < n → nat_lt m n ≡ true
lt_true m n h = grind (arith, nat_tests)

lt_false : (m n : ℕ) → n ≤ m → nat_lt m n ≡ false
lt_false m n h = grind (arith, nat_tests)

no_blank : (k : ℕ) → (48 + k == 32) ≡ false
no_blank k = grind (arith, nat_tests)

-- the digits, and what they say
pub record BeginsSession (text : List ℕ) (session digits : ℕ) : Type 0 where
  pub begins : session_digits text ≡ Some digits
  pub session_is : session ≡ number_of_digits (take digits text)

one_digit : (n : ℕ) (rest : List ℕ) → n < 10 → BeginsSession ((48 + n) ∷ 32 ∷ rest) n 1
one_digit n rest few =
    let value : n ≡ 10 * 0 + (48 + n - 48) = omega arith in
    record {
      begins = rw (digit_true n few, ← value, lt_true n SESSIONS (omega arith)) refl;
      session_is = value;
    }

none_after_one : (a b : ℕ) (rest : List ℕ) → (48 + b == 32) ≡ false → has_session 1 (a ∷ (48 + b) ∷ rest) ≡ false
none_after_one a b rest other = both (length (take 1 (a ∷ (48 + b) ∷ rest)) == 1 && all_ascii_digits (a ∷ []) && nat_lt (number_of_digits (a ∷ [])) SESSIONS) (48 + b == 32) other
  where
    both : (x y : Bool) → y ≡ false → x && y ≡ false
    both true y e = e
    both false y e = refl

two_digits : (n : ℕ) (rest : List ℕ) → n < 64 → BeginsSession ((48 + n / 10) ∷ (48 + n % 10) ∷ 32 ∷ rest) n 2
two_digits n rest few =
    let value : n ≡ 10 * (10 * 0 + (48 + n / 10 - 48)) + (48 + n % 10 - 48) = omega arith in
    let tens : n / 10 < 10 = omega arith in
    let ones : n % 10 < 10 = omega arith in
    record {
      begins = rw (none_after_one (48 + n / 10) (n % 10) (32 ∷ rest) (no_blank (n % 10))) (rw (digit_true (n / 10) tens, digit_true (n % 10) ones, ← value, lt_true n SESSIONS few) refl);
      session_is = value;
    }

-- the text of a session begins a line of it
pub session_begins : (n : ℕ) (rest : List ℕ) → n < 64 → BeginsSession (session_text n ++ 32 ∷ rest) n (length (session_text n))
session_begins n rest few =
    elim (nat_lt n 10) as (λ b. nat_lt n 10 ≡ b → BeginsSession ((if b then (48 + n) ∷ [] else (48 + n / 10) ∷ (48 + n % 10) ∷ []) ++ 32 ∷ rest) n (length (if b then (48 + n) ∷ [] else (48 + n / 10) ∷ (48 + n % 10) ∷ [])))
    [ true ↦ λ e. one_digit n rest (ltb-true n 10 e) | false ↦ λ e. two_digits n rest few ] refl

-- ---- the line

-- a line that ends with another byte than CR loses none
pub no_return : (front : List ℕ) (last : ℕ) → (last == 13) ≡ false → without_return (front ++ last ∷ []) ≡ front ++ last ∷ []
no_return [] last other = rw other refl
no_return (x ∷ []) last other = ap (λ l. x ∷ l) (no_return [] last other)
no_return (x ∷ y ∷ zs) last other = ap (λ l. x ∷ l) (no_return (y ∷ zs) last other)

readable : (line : List ℕ) (digits : ℕ) → length line ≤ LINE_BYTES → is_text line ≡ true → without_return line ≡ line → session_digits line ≡ Some digits → line_refusal line ≡ None
readable line digits few text whole begins = rw (lt_false LINE_BYTES (length line) few, whole, text, begins) refl

pub session_asks : (line : List ℕ) (session digits : ℕ) (tree : CommandTree) → length line ≤ LINE_BYTES → is_text line ≡ true → without_return line ≡ line → BeginsSession line session digits
    → Reads line digits (Ok tree) → Asks line (command session tree)
session_asks line session digits tree few text whole is reads = record {
  digits = digits;
  begins = record {
    is_readable = readable line digits few text whole is.begins;
    begins = ap session_digits whole ∙ is.begins;
    session_is = is.session_is ∙ ap (λ l. number_of_digits (take digits l)) (sym whole);
  };
  reads = subst (λ l. Reads l digits (Ok tree)) (sym whole) reads;
}

-- a line without control characters ends with no CR
pub clean_end : (line : List ℕ) → list_any is_control line ≡ false → without_return line ≡ line
clean_end [] clean = refl
clean_end (byte ∷ []) clean = rw (not_return byte clean) refl
  where
    not_return : (byte : ℕ) → (is_control byte || false) ≡ false → (byte == 13) ≡ false
    not_return byte clean = grind (arith, nat_tests)
clean_end (byte ∷ next ∷ bytes) clean = ap (λ l. byte ∷ l) (clean_end (next ∷ bytes) (rest (is_control byte) (list_any is_control (next ∷ bytes)) clean))
  where
    rest : (a b : Bool) → (a || b) ≡ false → b ≡ false
    rest true b e = absurd (false≢true (sym e))
    rest false b e = e

pub words_ask : (line : List ℕ) (session digits : ℕ) (rest : List ℕ) (tree : CommandTree) → session < 64 → length line ≤ LINE_BYTES → is_text line ≡ true → line ≡ session_text session ++ 32 ∷ rest → digits ≡ length (session_text session)
    → Reads line digits (Ok tree) → Asks line (command session tree)
words_ask line session digits rest tree few short text is at reads =
    let clean = clean_end line (clean_text line text) in
    session_asks line session digits tree short text clean
    (subst (λ l. BeginsSession l session digits) (sym is) (subst (λ n. BeginsSession (session_text session ++ 32 ∷ rest) session n) (sym at) (session_begins session rest few))) reads
