-- What the code reads of the matches, where they ask something.
use Rattle.std.proofs.Common.{◌≡◌, ℕ, Bool, true, false, refl, ap, arith, Option, Some, None, Result, Ok, Err, option_map, true≢false, sym}
use Rattle.std.specs.Prelude.{IsSome, option_and_then}
use Rattle.std.specs.Str.Parse.{ParsesUnsigned, digits_value, without_leading_plus}
use Rattle.clap.specs.ValueTests.{is_unsigned_in}
use Rattle.clap.specs.Walk.{Text}
use Rattle.clap.specs.Words.{ReadsOne}
use Rattle.clap.specs.declared.builder.value_parser.ValueParser.TheVariants.{Unsigned}
use Rattle.clap.proofs.ValueTestLemmas.{accepts-Accepts}
use Rattle.rs_command_line.specs.Asked.{number_in, serves}

-- what is asked with a number has it
pub last_of_three : (file address : Option Text) (number : Option ℕ)
    → IsSome (option_and_then (λ file. option_and_then (λ address. option_map (serves file address) number) address) file) → IsSome number
last_of_three None address number e = absurd (true≢false (sym e))
last_of_three (Some f) None number e = absurd (true≢false (sym e))
last_of_three (Some f) (Some d) None e = e
last_of_three (Some f) (Some d) (Some n) e = refl

-- the text of the number, which is one
pub number_text : (o : Option Text) → IsSome (option_and_then number_in o) → (t : Text) × (o ≡ Some t) × (is_unsigned_in 1 1000000 t ≡ true)
number_text None e = absurd (true≢false (sym e))
number_text (Some t) e = go (is_unsigned_in 1 1000000 t) refl
  where
    go : (b : Bool) → is_unsigned_in 1 1000000 t ≡ b → (x : Text) × (Some t ≡ Some x) × (is_unsigned_in 1 1000000 x ≡ true)
    go true same = (t, refl, same)
    go false same = absurd (true≢false (sym (rw same at e)))

pub number_worth : (t : Text) → is_unsigned_in 1 1000000 t ≡ true → number_in t ≡ Some (digits_value 10 (without_leading_plus t))
number_worth t passed = rw passed refl

-- it reads as that number
pub number_read : {E : Type 0} (G : Text → Result ℕ E → Type 0) (t : Text) (r : Option ℕ) → ((u : Text) (x : Result ℕ E) → G u x → ParsesUnsigned 32 10 u x)
    → is_unsigned_in 1 1000000 t ≡ true → ReadsOne G t r → r ≡ Some (digits_value 10 (without_leading_plus t))
number_read G t (Some v) only passed read =
    let parsed = only t (Ok v) read in
    ap Some parsed.1
number_read G t None only passed read =
    let fits = accepts-Accepts false (Unsigned 1 1000000) t passed in
    let most = fits.3 in
    absurd (only t (Err read.0) read.1 (fits.0, omega arith))
