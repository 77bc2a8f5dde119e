use Rattle.std.proofs.Common.{◌≡◌, ◌∙◌, decimal, subst}
use Rattle.std.specs.Prelude.{IsTrue}
use Rattle.std.proofs.lemmas.Result.{on_ok_weaker}
use Rattle.csv.specs.Records.{fields_of}
use Rattle.rs_value.specs.Values.{is_text}
use Rattle.rs_csv_lines.specs.Fields.{content, HasText}
use Rattle.rs_csv_lines.specs.Texts.{PutsDatum}
use Rattle.rs_csv_lines.proofs.Putting.{given_number}
use Rattle.rs_csv_lines.proofs.put.put_value.Goals as goal

pub returns-in_ok-field-in-Number : goal.returns-in_ok-field-in-Number
returns-in_ok-field-in-Number c =
    let is : c.as_bytes.result.now ≡ decimal c.args.number = c.as_bytes.ensures.value ∙ c.format.ensures.text in
    let text = c.in_ok-field-in-Number.ensures in
    let field = c.in_ok-field-in-Number.field in
    let clean : IsTrue (is_text (content (decimal c.args.number))) = subst (λ bs. IsTrue (is_text (content bs))) is text.0 in
    let has : HasText field.text.now field.is_empty (decimal c.args.number) = subst (HasText field.text.now field.is_empty) is text.1 in
    on_ok_weaker c.put_datum-in-Number.result
    (λ put. (put.0, put.1, given_number c.args.number (fields_of c.args.csv_record.now) c.args.column.now.source (λ f. PutsDatum c.args.column.now.column_type c.args.column.now.scale f put.0 put.1) c.in-Number.is clean (put.2 (decimal c.args.number) has), put.3))
    c.put_datum-in-Number.ensures
