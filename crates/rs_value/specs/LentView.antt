-- What a lent value says.
use Rattle.rs_value.specs.declared.lent.LentValue.{LentValue}
use Rattle.rs_value.specs.declared.lent.LentValue.TheVariants as values
use Rattle.rs_value.specs.Row.{Datum, null, number, text}

abbrev pub lent_datum : LentValue → Datum
lent_datum values.Null = null
lent_datum (values.Int n) = number n
lent_datum (values.Text bytes) = text bytes.now
