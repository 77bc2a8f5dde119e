use Rattle.std.proofs.Common.{string_bytes}
use Rattle.std.proofs.lemmas.Result.{on_ok_weaker}
use Rattle.csv.specs.Records.{fields_of}
use Rattle.rs_csv_lines.proofs.Putting.{no_column, none_further, more_further}
use Rattle.rs_csv_lines.proofs.insert.+put_further.Goals as goal

pub returns-in-None : goal.returns-in-None
returns-in-None t c = none_further c.args.number (fields_of c.args.csv_record.now) c.args.columns.now (string_bytes c.args.line.now) (no_column c.args.columns.now c.in-None.ensures.cases)

pub returns-in_ok-put_value-in-Some : goal.returns-in_ok-put_value-in-Some
returns-in_ok-put_value-in-Some t c =
    on_ok_weaker c.put_further.result
    (λ more. more_further c.args.number (fields_of c.args.csv_record.now) c.args.columns.now c.in-Some.column.now c.in-Some.others.now (string_bytes c.args.line.now) _ _ _ c.in-Some.ensures.cases.0
    c.in_ok-push_str-in-Some.ensures.bytes c.in_ok-put_value-in-Some.ensures more)
    c.put_further.ensures
