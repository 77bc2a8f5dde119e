-- The record is held after those that are.
use Rattle.rs_csv_table.specs.Records.{records_of}
use Rattle.csv.specs.Records.{fields_of as fields_read}
use Rattle.rs_csv_table.proofs.Portions.{more_records, one_more}
use Rattle.rs_csv_table.proofs.table.take_record.Goals as goal

pub returns : goal.returns
returns g c = λ read before so.
    one_more read (records_of c.make_room.new.held.items) (records_of c.push.new.self.items) (fields_read c.args.record.now) before _
    (more_records c.push.new.self.items c.make_room.new.held.items c.in_ok-fields.fields (fields_read c.args.record.now) c.in_ok-push.ensures.items c.in_ok-fields.ensures)
    (c.in_ok-make_room.ensures read before so)
