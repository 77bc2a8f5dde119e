use Rattle.std.proofs.Common.{arith, sym}
use Rattle.csv.specs.Records.{fields_of}
use Rattle.rs_csv.proofs.Rejected.{field_here, field_there, fields_more}
use Rattle.rs_csv.proofs.rejects.push_fields.Goals as goal

pub unreachable-requires : goal.unreachable-requires
unreachable-requires c = field_there (fields_of c.args.csv_record.now) c.loop-place.place (omega (arith, c.requires, c.loop-place-test.true)) (sym c.in-None.ensures.value)

pub loop-place-preserved : goal.loop-place-preserved
loop-place-preserved c =
    let fields = fields_of c.args.csv_record.now in
    let field = c.in-Some.field.now in
    record {
      put = fields_more c.args.separator c.args.row.now.items c.loop-place.row.items c.push_field.new.row.items c.push.new.self.items fields c.loop-place.place field (omega (arith, c.requires, c.loop-place-test.true))
          (field_here fields c.loop-place.place field (sym c.in-Some.ensures.value)) c.loop-place.invariant.put c.in_ok-push_field-in-Some.ensures c.in_ok-push.ensures.items;
    }
