use Rattle.std.proofs.Common.{arith, sym}
use Rattle.csv.specs.Records.{fields_of}
use Rattle.rs_csv.proofs.NamesFiles.{columns_more}
use Rattle.rs_csv.proofs.Rejected.{field_here, field_there}
use Rattle.rs_csv.proofs.names_file.push_columns.Goals as goal

pub unreachable-requires : goal.unreachable-requires
unreachable-requires c = field_there (fields_of c.args.header.now) c.loop-place.place (omega (arith, c.loop-place-test.true, c.len-place-end.ensures)) (sym c.in-None.ensures.value)

pub loop-place-preserved : goal.loop-place-preserved
loop-place-preserved c =
    let fields = fields_of c.args.header.now in
    let field = c.in-Some.field.now in
    record {
      put = columns_more c.args.rows.now.items c.loop-place.rows.items c.push_column.new.rows.items fields c.loop-place.place field (omega (arith, c.loop-place-test.true, c.len-place-end.ensures))
          (field_here fields c.loop-place.place field (sym c.in-Some.ensures.value)) c.loop-place.invariant.put c.in_ok-push_column-in-Some.ensures;
    }
