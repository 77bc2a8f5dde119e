use Rattle.std.proofs.Common.{string_bytes}
use Rattle.std.proofs.lemmas.Result.{on_ok_weaker}
use Rattle.csv.specs.Records.{fields_of}
use Rattle.rs_csv_lines.proofs.Putting.{row_put}
use Rattle.rs_csv_lines.proofs.insert.put_row.Goals as goal

pub returns : goal.returns
returns c =
    on_ok_weaker c.put_further.result (λ more. row_put c.args.number (fields_of c.args.csv_record.now) c.args.columns.now c.in-Some.column.now c.in-Some.others.now (string_bytes c.args.line.now) _ _ c.in-Some.ensures.cases.0 c.in_ok-put_value-in-Some.ensures more) c.put_further.ensures
