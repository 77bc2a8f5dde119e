-- The shortest text of a measure: what it says, and which token it is.
use Rattle.std.proofs.Common.{◌≡◌, ℕ, ◌+◌, ◌-◌, ◌*◌, ◌/◌, ◌%◌, ◌<◌, ◌≤◌, ◌^◌, true, false, inl, inr, List, [], ◌∷◌, ◌++◌, length, codes, decimal, Some, refl, sym, subst, arith, append-nil, append_assoc}
use Rattle.std.specs.Prelude.{◌==◌, if◌then◌else◌}
use Rattle.std.proofs.lemmas.Bool.{eqb-true}
use Rattle.std.proofs.lemmas.Fmt.{digits_decimal, digits_value-decimal, decimal_nonempty}
use Rattle.rs_grammar.specs.declared.kind.TokenKind.{TokenKind}
use Rattle.rs_grammar.specs.declared.kind.TokenKind.TheVariants as kinds
use Rattle.rs_lexer.specs.Lexis.{token_kind}
use Rattle.rs_measure.specs.FixedPoint.{AreDigitsUpTo, number_of_digits, three_digits}
use Rattle.rs_measure.specs.Measure.{SaysMeasure}
use Rattle.rs_measure.proofs.FixedPoint.{numerals}
use Rattle.rs_measure.proofs.MeasureText.{whole_digits_short}
use Rattle.rs_csv_lines.proofs.NumberTexts.{whole_token, decimal_token}
use Rattle.rs_dump_laws.specs.Lines.{decimals_text, shortest_text}

-- ---- decimals

-- the decimals of so many thousandths: digits, one to three, that say them
record AreDecimals (n : ℕ) (text : List ℕ) : Type 0 where
  digits : AreDigitsUpTo 3 text
  value : n ≡ 10 ^ (3 - length text) * number_of_digits text

tenths : (n : ℕ) → n < 1000 → n % 100 ≡ 0 → AreDecimals n ((48 + n / 100) ∷ [])
tenths n few even = record { digits = record { digits_only = (omega arith, omega arith, tt); some = omega arith; at_most = omega arith }; value = omega arith }

hundredths : (n : ℕ) → n < 1000 → n % 10 ≡ 0 → AreDecimals n ((48 + n / 100) ∷ (48 + n / 10 % 10) ∷ [])
hundredths n few even = record { digits = record { digits_only = (omega arith, omega arith, (omega arith, omega arith, tt)); some = omega arith; at_most = omega arith }; value = omega arith }

all_three : (n : ℕ) → n < 1000 → AreDecimals n (three_digits n)
all_three n few = record { digits = record { digits_only = (omega arith, omega arith, (omega arith, omega arith, (omega arith, omega arith, tt))); some = omega arith; at_most = omega arith }; value = omega arith }

decimals : (n : ℕ) → n < 1000 → AreDecimals n (decimals_text n)
decimals n few = elim (n % 100 == 0) as (λ b. n % 100 == 0 ≡ b → AreDecimals n (if b then (48 + n / 100) ∷ [] else if n % 10 == 0 then (48 + n / 100) ∷ (48 + n / 10 % 10) ∷ [] else three_digits n)) [
  | true ↦ λ e. tenths n few (eqb-true (n % 100) 0 e)
  | false ↦ λ e. elim (n % 10 == 0) as (λ b. n % 10 == 0 ≡ b → AreDecimals n (if b then (48 + n / 100) ∷ (48 + n / 10 % 10) ∷ [] else three_digits n)) [
    | true ↦ λ f. hundredths n few (eqb-true (n % 10) 0 f)
    | false ↦ λ f. all_three n few
  ] refl
] refl

-- ---- the whole text

-- which token it is: whole where there are no decimals
abbrev pub measure_kind : ℕ → TokenKind
measure_kind k = if k % 1000 == 0 then kinds.Whole else kinds.Decimal

-- the text says the measure, and is a token of this kind
pub record IsMeasureText (k : ℕ) (text : List ℕ) (kind : TokenKind) : Type 0 where
  pub says : SaysMeasure text k
  pub token : token_kind text ≡ Some kind

whole_digits : (k : ℕ) → k ≤ 999999999 → AreDigitsUpTo 6 (decimal (k / 1000))
whole_digits k few = record { digits_only = digits_decimal numerals (k / 1000) (omega arith); some = decimal_nonempty (k / 1000) (omega arith); at_most = whole_digits_short k few }

without_point : (k : ℕ) → k ≤ 999999999 → k % 1000 ≡ 0 → IsMeasureText k (decimal (k / 1000) ++ []) kinds.Whole
without_point k few even =
    let digits = whole_digits k few in
    let back : number_of_digits (decimal (k / 1000)) ≡ k / 1000 = digits_value-decimal numerals (k / 1000) (omega arith) in
    subst (λ text. IsMeasureText k text kinds.Whole) (sym (append-nil (decimal (k / 1000))))
    (record { says = inl (record { whole = digits; value = omega (arith, back) }); token = whole_token (decimal (k / 1000)) digits.digits_only digits.some })

with_point : (k : ℕ) → k ≤ 999999999 → IsMeasureText k (decimal (k / 1000) ++ (codes "." ++ decimals_text (k % 1000))) kinds.Decimal
with_point k few =
    let digits = whole_digits k few in
    let back : number_of_digits (decimal (k / 1000)) ≡ k / 1000 = digits_value-decimal numerals (k / 1000) (omega arith) in
    let parts = decimals (k % 1000) (omega arith) in
    let value = parts.value in
    record {
      says = inr (decimal (k / 1000), decimals_text (k % 1000), record { whole_part = digits; decimal_part = parts.digits; cut = sym (append_assoc (decimal (k / 1000)) (codes ".") (decimals_text (k % 1000))); value = whole_value k (10 ^ (3 - length (decimals_text (k % 1000))) * number_of_digits (decimals_text (k % 1000))) (number_of_digits (decimal (k / 1000))) value back });
      token = decimal_token (decimal (k / 1000)) (decimals_text (k % 1000)) digits.digits_only digits.some parts.digits.digits_only parts.digits.some;
    }
  where
    whole_value : (k parts whole : ℕ) → k % 1000 ≡ parts → whole ≡ k / 1000 → k ≡ 10 ^ 3 * whole + parts
    whole_value k parts whole e f = omega arith

pub measure_text_is : (k : ℕ) → k ≤ 999999999 → IsMeasureText k (shortest_text k) (measure_kind k)
measure_text_is k few = elim (k % 1000 == 0) as (λ b. k % 1000 == 0 ≡ b → IsMeasureText k (decimal (k / 1000) ++ (if b then [] else codes "." ++ decimals_text (k % 1000))) (if b then kinds.Whole else kinds.Decimal)) [
  | true ↦ λ e. without_point k few (eqb-true (k % 1000) 0 e)
  | false ↦ λ e. with_point k few
] refl
