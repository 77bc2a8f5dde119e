-- Which token digits are, and digits with decimals; and what the printed text of a measure or of a number says.
use Rattle.std.proofs.Common.{◌≡◌, ◌∙◌, ℕ, ◌/◌, ◌%◌, ◌^◌, ◌<◌, ◌≤◌, Bool, true, false, ◌&&◌, List, [], ◌∷◌, ◌++◌, length, codes, decimal, Some, refl, ap, arith, append_assoc}
use Rattle.std.specs.Char.{is_ascii_alphabetic, is_ascii_digit}
use Rattle.std.specs.List.{list_all}
use Rattle.std.proofs.lemmas.Bool.Decides.{nat_tests}
use Rattle.std.proofs.lemmas.Fmt.{digits_decimal, digits_value-decimal, decimal_nonempty}
use Rattle.rs_grammar.specs.declared.kind.TokenKind.TheVariants as kinds
use Rattle.rs_lexer.specs.Lexis.{is_fraction, is_whole, token_kind}
use Rattle.rs_measure.specs.FixedPoint.{AreDigits, number_of_digits, three_digits}
use Rattle.rs_measure.specs.Measure.{measure_text}
use Rattle.rs_measure.proofs.FixedPoint.{numerals}

digit-alphabetic : (byte : ℕ) → 48 ≤ byte → byte ≤ 57 → is_ascii_alphabetic byte ≡ false
digit-alphabetic byte low high = grind (arith, nat_tests)

digit-digit : (byte : ℕ) → 48 ≤ byte → byte ≤ 57 → is_ascii_digit byte ≡ true
digit-digit byte low high = grind (arith, nat_tests)

all_digits : (digits : List ℕ) → AreDigits digits → list_all is_ascii_digit digits ≡ true
all_digits [] are = refl
all_digits (d ∷ ds) are = rw (digit-digit d are.0 are.1) (all_digits ds are.2)

and_right : (a b : Bool) → b ≡ false → a && b ≡ false
and_right true b e = e
and_right false b e = refl

not_all_digits : (digits more : List ℕ) → list_all is_ascii_digit (digits ++ 46 ∷ more) ≡ false
not_all_digits [] more = refl
not_all_digits (d ∷ ds) more = and_right (is_ascii_digit d) _ (not_all_digits ds more)

whole-all : (digits : List ℕ) → AreDigits digits → 1 ≤ length digits → is_whole digits ≡ true
whole-all [] are some = absurd (omega arith)
whole-all (d ∷ ds) are some = rw (digit-digit d are.0 are.1) (all_digits ds are.2)

fraction-is : (whole rest : List ℕ) → AreDigits whole → is_whole rest ≡ true → is_fraction (whole ++ 46 ∷ rest) ≡ true
fraction-is [] rest are is = is
fraction-is (d ∷ ds) rest are is = rw (digit-digit d are.0 are.1) (fraction-is ds rest are.2 is)

pub whole_token : (digits : List ℕ) → AreDigits digits → 1 ≤ length digits → token_kind digits ≡ Some kinds.Whole
unfolding token_kind
whole_token [] are some = absurd (omega arith)
whole_token (d ∷ ds) are some = rw (digit-alphabetic d are.0 are.1, digit-digit d are.0 are.1, all_digits ds are.2) refl

pub decimal_token : (whole parts : List ℕ) → AreDigits whole → 1 ≤ length whole → AreDigits parts → 1 ≤ length parts → token_kind (whole ++ 46 ∷ parts) ≡ Some kinds.Decimal
unfolding token_kind
decimal_token [] parts are some digits more = absurd (omega arith)
decimal_token (d ∷ ds) parts are some digits more =
    rw (digit-alphabetic d are.0 are.1, digit-digit d are.0 are.1, not_all_digits ds parts, fraction-is ds parts are.2 (whole-all parts digits more)) refl

pub three_are : (n : ℕ) → n < 1000 → AreDigits (three_digits n)
three_are n few = (omega arith, omega arith, (omega arith, omega arith, (omega arith, omega arith, tt)))

-- the printed text of a measure is one token
pub printed_measure : (n : ℕ) → n ≤ 999999999 → token_kind (measure_text n) ≡ Some kinds.Decimal
printed_measure n few =
    ap token_kind (append_assoc (decimal (n / 1000)) (codes ".") (three_digits (n % 1000)))
    ∙ decimal_token (decimal (n / 1000)) (three_digits (n % 1000)) (digits_decimal numerals (n / 1000) (omega arith)) (decimal_nonempty (n / 1000) (omega arith)) (three_are (n % 1000) (omega arith)) (omega arith)

-- so is that of a number, which it says
pub printed_amount : (n : ℕ) → n ≤ 10 ^ 12 → token_kind (decimal n) ≡ Some kinds.Whole
printed_amount n few = whole_token (decimal n) (digits_decimal numerals n (omega (arith, few))) (decimal_nonempty n (omega (arith, few)))

pub amount_said : (n : ℕ) → n ≤ 10 ^ 12 → number_of_digits (decimal n) ≡ n
amount_said n few = digits_value-decimal numerals n (omega (arith, few))
