use Rattle.std.proofs.Common.{◌≡◌, ◌++◌, ◌∙◌, ap, arith, get_or}
use Rattle.rs_value.specs.LentView.{lent_datum}
use Rattle.rs_value.specs.Row.{null}
use Rattle.rs_value.specs.Text.{datum_text}
use Rattle.rs_value.specs.declared.column.ColumnType.TheVariants.{Int}
use Rattle.rs_dump_lines.proofs.Joined.{one_pushed}
use Rattle.rs_dump_lines.proofs.SaidRows.{said_next, said_long}
use Rattle.rs_dump_lines.proofs.lists.push_more_values.Goals as goal

pub split_at-requires : goal.split_at-requires
split_at-requires c =
    let (said, says) = c.requires.says in
    (said_next c.args.columns.now c.args.values.now c.loop-column.rest.now c.loop-column.column-index c.column_width.result Int said c.loop-column-test.true
    c.column_width.ensures.value says (c.loop-column.invariant.says said says)).0

pub read_value-requires : goal.read_value-requires
read_value-requires c =
    let (said, says) = c.requires.says in
    let next = said_next c.args.columns.now c.args.values.now c.loop-column.rest.now c.loop-column.column-index c.column_width.result Int said c.loop-column-test.true
    c.column_width.ensures.value says (c.loop-column.invariant.says said says) in
    (get_or said c.loop-column.column-index null, rw c.split_at.ensures.front next.1)

pub loop-column-preserved : goal.loop-column-preserved
loop-column-preserved c = record {
  says = λ said says.
      let next = said_next c.args.columns.now c.args.values.now c.loop-column.rest.now c.loop-column.column-index c.column_width.result Int said c.loop-column-test.true
      c.column_width.ensures.value says (c.loop-column.invariant.says said says) in
      rw c.split_at.ensures.back next.2;
  put = λ said says.
      let i = c.loop-column.column-index in
      let next = said_next c.args.columns.now c.args.values.now c.loop-column.rest.now i c.column_width.result Int said c.loop-column-test.true
      c.column_width.ensures.value says (c.loop-column.invariant.says said says) in
      let value : lent_datum c.read_value.result ≡ get_or said i null = c.read_value.ensures (get_or said i null) (rw c.split_at.ensures.front next.1) in
      let long = said_long c.args.columns.now c.args.values.now said says in
      one_pushed said i c.loop-column.text.items c.push.new.self.items c.push_value.new.text.items (omega (arith, c.loop-column-test.true, long)) c.in_ok-push.ensures.items
      (c.in_ok-push_value.ensures ∙ ap (λ datum. c.push.new.self.items ++ datum_text datum) value)
      ∙ c.loop-column.invariant.put said says;
}
