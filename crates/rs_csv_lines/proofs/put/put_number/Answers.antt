use Rattle.std.proofs.Common.{◌∙◌, ◌++◌, refl, ap, inl, inr, decimal, string_bytes}
use Rattle.std.proofs.lemmas.Result.{on_ok_weaker}
use Rattle.rs_measure.specs.FixedPoint.{number_of_digits}
use Rattle.rs_lexer.specs.Lexis.{token_text}
use Rattle.rs_value.specs.Row.{number}
use Rattle.rs_syntax.specs.Written.{signed}
use Rattle.rs_csv_lines.specs.Texts.{signed_text}
use Rattle.rs_csv_lines.proofs.Spelled.{told_spelling, number_token}
use Rattle.rs_csv_lines.proofs.put.put_number.Goals as goal

pub text-requires : goal.text-requires
text-requires c =
    let found = c.in-Ok in
    let spells = found.ensures in
    number_token c.args.field.now found.is_negative found.digits (told_spelling c.args.field.now spells.tokens _ spells.cut spells.spelled)

pub returns-in_ok-put_signed-in-Ok : goal.returns-in_ok-put_signed-in-Ok
returns-in_ok-put_signed-in-Ok c =
    let found = c.in-Ok in
    let digits = token_text c.args.field.now found.digits in (
      number (signed found.is_negative (number_of_digits digits)),
      signed_text found.is_negative digits,
      inl (found.is_negative, found.digits, found.ensures, refl, refl, c.multiplies.ensures c.if-multiplies.false),
      c.in_ok-put_signed-in-Ok.ensures ∙ ap (λ ds. string_bytes c.args.line.now ++ signed_text found.is_negative ds) c.text.ensures,
    )

pub returns-then-multiplies : goal.returns-then-multiplies
returns-then-multiplies c =
    on_ok_weaker c.put_amount.result (λ put. (number (signed put.0 put.1), signed_text put.0 (decimal put.1), inr (put.0, put.1, put.2, refl, refl), put.3)) c.put_amount.ensures

pub returns-in-Err : goal.returns-in-Err
returns-in-Err c =
    on_ok_weaker c.put_amount-in-Err.result (λ put. (number (signed put.0 put.1), signed_text put.0 (decimal put.1), inr (put.0, put.1, put.2, refl, refl), put.3)) c.put_amount-in-Err.ensures
