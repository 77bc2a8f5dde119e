use Rattle.std.proofs.Common.{◌∙◌, ◌++◌, ap, subst, sym, string_bytes, length, ◌≤◌}
use Rattle.std.specs.Prelude.{IsUtf8}
use Rattle.csv.specs.Records.{fields_of}
use Rattle.rs_csv_lines.specs.Inserts.{IsAt, PutsRow}
use Rattle.rs_csv_lines.proofs.Putting.{whole_line}
use Rattle.rs_csv_lines.proofs.Inserts.{line_asks}
use Rattle.rs_machine.specs.declared.limits.TheConstants.{LINE_BYTES}
use Rattle.rs_csv_lines.proofs.insert.write_insert.Goals as goal

pub returns : goal.returns
returns c =
    let plan = c.args.plan.now in
    let fields = fields_of c.args.csv_record.now in
    let place = c.in_ok-ends.ensures in
    let row = c.in_ok-put_row.ensures in
    let short : length (string_bytes c.push_str-5.new.self) ≤ LINE_BYTES = subst (λ bs. length bs ≤ LINE_BYTES) c.as_str-whole.ensures.value c.if-whole-gt-LINE_BYTES.false in
    let asks =
    line_asks plan c.args.number fields (string_bytes c.push_str-5.new.self) c.in_ok-route.route.bytes place.1 row.1 place.0 row.0 c.requires.session c.requires.named (subst IsUtf8 c.as_str-whole.ensures.value c.as_str-whole.utf8) short
    c.in_ok-route.ensures.told place.2 (subst (λ cs. PutsRow c.args.number fields cs row.0 row.1) c.as_slice.ensures.value row.2)
    (whole_line plan.session plan.table.bytes c.in_ok-route.route.bytes place.1 row.1 _ _ _ _ _ _ _ _ _ _
    c.clear.ensures.bytes c.in_ok-put_session.ensures c.in_ok-push_str.ensures.bytes (c.in_ok-push_str-2.ensures.bytes ∙ ap (λ t. string_bytes c.push_str.new.self ++ t) c.as_str.ensures.value) c.in_ok-push_str-3.ensures.bytes
    c.in_ok-route.ensures.put place.3 c.in_ok-push_str-4.ensures.bytes row.3 c.in_ok-push_str-5.ensures.bytes) in
    (asks.0, asks.1, asks.2, asks.3, subst (λ location. IsAt location c.in_ok-ends.ends) (sym asks.4) place.4)
