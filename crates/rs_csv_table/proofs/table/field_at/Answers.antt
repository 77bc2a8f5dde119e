-- The field is there.
use Rattle.std.proofs.Common.{sym}
use Rattle.csv.specs.Records.{fields_of as fields_read}
use Rattle.csv.proofs.RecordFacts.{field-get, field-there}
use Rattle.rs_csv_table.proofs.table.field_at.Goals as goal

pub unreachable-requires : goal.unreachable-requires
unreachable-requires c = field-there (fields_read c.args.record.now) c.args.place c.requires (sym c.in-None.ensures.value)

pub returns : goal.returns
returns c = sym (field-get (fields_read c.args.record.now) c.args.place c.in-Some.field.now (sym c.in-Some.ensures.value))
