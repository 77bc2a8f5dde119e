use Rattle.std.proofs.Common.{◌≡◌, ◌≤◌, ◌++◌, ◌∙◌, ap, arith, drop, get_or, length, subst}
use Rattle.std.proofs.lemmas.Result.{on_ok_weaker}
use Rattle.rs_value.specs.Encoding.{SaysRow}
use Rattle.rs_value.specs.LentView.{lent_datum}
use Rattle.rs_value.specs.Row.{null}
use Rattle.rs_value.specs.Text.{datum_text}
use Rattle.rs_dump_lines.proofs.Joined.{first_pushed}
use Rattle.rs_dump_lines.proofs.SaidRows.{said_first, said_long}
use Rattle.rs_dump_lines.proofs.lists.push_values.Goals as goal

pub returns : goal.returns
returns c = λ said says.
    let long = said_long c.args.columns.now c.args.values.now said says in
    let some : 1 ≤ length said = omega (arith, c.in-Some.ensures.cases.1, long) in
    let column = c.in-Some.column.now in
    let first = said_first column c.in-Some.others.now c.column_width.result c.args.values.now said c.column_width.ensures.value (subst (λ ts. SaysRow ts c.args.values.now said) c.in-Some.ensures.cases.0 says) in
    let value : lent_datum c.read_value.result ≡ get_or said 0 null = c.read_value.ensures (get_or said 0 null) (rw c.split_at.ensures.front first.1) in
    let more : SaysRow c.in-Some.others.now c.split_at.result.1.now (drop 1 said) = rw c.split_at.ensures.back first.2 in
    on_ok_weaker c.push_more_values.result (first_pushed said c.args.text.now.items c.push_value.new.text.items _ some
    (c.in_ok-push_value.ensures ∙ ap (λ datum. c.args.text.now.items ++ datum_text datum) value)) (c.push_more_values.ensures (drop 1 said) more)
