use Rattle.std.proofs.Common.{◌≡◌, ◌∙◌, ap}
use Rattle.rs_syntax.specs.Written.{lexemes_of, value_lexemes}
use Rattle.rs_syntax.specs.declared.written.WrittenValue.TheVariants as written_values
use Rattle.rs_csv_lines.proofs.Spelled.{whole_spelling, told_spelling, number_token}
use Rattle.rs_csv_lines.proofs.fields.number_of.Goals as goal

pub text-requires : goal.text-requires
text-requires c =
    let arm = c.in-Ok-Whole-empty in
    let spelled : lexemes_of c.args.tokens.now ≡ value_lexemes (written_values.Whole arm.is_negative arm.digits) =
    whole_spelling (value_lexemes arm.field-0-0) (lexemes_of c.args.tokens.now) arm.field-0-1.now arm.ensures.spelled arm.len_below ∙ ap value_lexemes arm.field-0-0-is in
    number_token c.args.text.now arm.is_negative arm.digits (told_spelling c.args.text.now c.args.tokens.now _ c.requires spelled)
