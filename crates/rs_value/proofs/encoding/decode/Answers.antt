use Rattle.std.proofs.Common.{◌+◌, ◌++◌, map, drop, sym, subst, ◌∙◌, arith, take-append-drop, get_or, ap₂, rules}
use Rattle.std.proofs.lemmas.List.{nil_from_length}
use Rattle.rs_value.specs.declared.column.ColumnType.TheVariants as types
use Rattle.rs_value.specs.Row.{Row}
use Rattle.rs_value.specs.View.{datum_of, row_of}
use Rattle.rs_value.specs.Encoding.{SaysDatum, SaysRow}
use Rattle.rs_value.proofs.EncodingSteps.{read_step, read_next, read_end}
use Rattle.rs_value.proofs.encoding.decode.Goals as goal

pub returns-in_err-first-clause-none : goal.returns-in_err-first-clause-none
returns-in_err-first-clause-none c =
    let none : (row : Row) → SaysRow c.args.schema.now.items c.args.bytes.now row → ⊥ = λ row says.
    let next = read_next c.as_slice-columns.result.now c.loop-column.column-index c.column_width.result c.args.bytes.now c.loop-column.rest.now types.Int c.loop-column-test.true c.column_width.ensures.value c.loop-column.invariant.none row
    (subst (λ ts. SaysRow ts c.args.bytes.now row) (sym c.as_slice-columns.ensures.value) says) in
    absurd (omega (arith, next.0, c.in_err-first.ensures.cases)) in
    rw c.from_residual.ensures none

pub returns-in_err-decode_value-clause-none : goal.returns-in_err-decode_value-clause-none
returns-in_err-decode_value-clause-none c =
    let none : (row : Row) → SaysRow c.args.schema.now.items c.args.bytes.now row → ⊥ = λ row says.
    let next = read_next c.as_slice-columns.result.now c.loop-column.column-index c.column_width.result c.args.bytes.now c.loop-column.rest.now types.Int c.loop-column-test.true c.column_width.ensures.value c.loop-column.invariant.none row
    (subst (λ ts. SaysRow ts c.args.bytes.now row) (sym c.as_slice-columns.ensures.value) says) in
    c.in_err-decode_value.ensures.none next.1.0 (subst (λ b. SaysDatum (get_or c.as_slice-columns.result.now c.loop-column.column-index types.Int) b next.1.0) (sym c.in_ok-first.ensures.cases.1) next.1.1) in
    rw c.from_residual-in_err-decode_value.ensures none

pub loop-column-preserved : goal.loop-column-preserved
loop-column-preserved c = record {
  len = omega (arith, c.push.ensures.len, c.loop-column.invariant.len);
  some = λ row says. subst (λ items. SaysRow c.as_slice-columns.result.now c.args.bytes.now (map datum_of items ++ row)) (sym c.push.ensures.items)
      (read_step c.as_slice-columns.result.now c.loop-column.tuple.items c.loop-column.column-index c.args.bytes.now c.loop-column.rest.now c.in_ok-first.others.now c.in_ok-first.first.now types.Int c.in_ok-decode_value.field-0
      c.loop-column-test.true (sym (take-append-drop c.column_width.result c.loop-column.rest.now) ∙ ap₂ ◌++◌ (sym c.in_ok-first.ensures.cases.1) (sym c.in_ok-first.ensures.cases.2)) c.in_ok-decode_value.ensures.value c.loop-column.invariant.some row says);
  none = λ row says.
      let next = read_next c.as_slice-columns.result.now c.loop-column.column-index c.column_width.result c.args.bytes.now c.loop-column.rest.now types.Int c.loop-column-test.true c.column_width.ensures.value c.loop-column.invariant.none row says in
      (next.2.0, subst (λ b. SaysRow (drop (c.loop-column.column-index + 1) c.as_slice-columns.result.now) b next.2.0) (sym c.in_ok-first.ensures.cases.2) next.2.1);
}

pub returns-then-is_empty-clause-row : goal.returns-then-is_empty-clause-row
unfolding row_of
returns-then-is_empty-clause-row c = subst (λ ts. SaysRow ts c.args.bytes.now (map datum_of c.loop-column.tuple.items)) c.as_slice-columns.ensures.value
    (read_end c.as_slice-columns.result.now c.loop-column.tuple.items c.loop-column.column-index c.args.bytes.now c.loop-column.rest.now c.loop-column-test.false (nil_from_length c.loop-column.rest.now (search rules)) c.loop-column.invariant.some)
