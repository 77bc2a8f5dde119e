use Rattle.rs_value.specs.Row.{text}
use Rattle.rs_value.specs.Text.{datum_text}
use Rattle.rs_csv_lines.proofs.Putting.{puts_text}
use Rattle.rs_csv_lines.proofs.put.put_datum.Goals as goal

pub returns-in_ok-put_text-in-Text : goal.returns-in_ok-put_text-in-Text
returns-in_ok-put_text-in-Text c =
    let bytes = c.args.field.text.now in (
      text bytes,
      datum_text (text bytes),
      puts_text c.in-Text.field-0 c.args.column.now.column_type c.args.column.now.scale bytes c.args.field.is_empty c.if-field.false c.in-Text.is,
      c.in_ok-put_text-in-Text.ensures,
    )
