use Rattle.std.proofs.Common.{◌+◌, ◌∷◌, ◌++◌, IsTrue, drop, sym, subst, ◌∙◌, arith, take-append-drop, get_or, ap₂, true≢false}
use Rattle.std.proofs.lemmas.List.{drop_more}
use Rattle.rs_value.specs.declared.column.ColumnType.TheVariants as types
use Rattle.rs_value.specs.Row.{Row}
use Rattle.rs_value.specs.Encoding.{SaysDatum, SaysRow}
use Rattle.rs_value.specs.LentView.{lent_datum}
use Rattle.rs_value.proofs.EncodingSteps.{read_next}
use Rattle.rs_value.proofs.KeptEncoding.{read_whole}
use Rattle.rs_value.proofs.kept_encoding.says_row.Goals as goal

pub returns-in_default : goal.returns-in_default
returns-in_default c = (
  λ no. absurd (true≢false (sym no)),
  λ (row, says).
      let next = read_next c.as_slice-columns.result.now c.loop-column.column-index c.column_width.result c.args.encoded.now c.loop-column.rest.now types.Int c.loop-column-test.true c.column_width.ensures.value c.loop-column.invariant.none row
      (subst (λ ts. SaysRow ts c.args.encoded.now row) (sym c.as_slice-columns.ensures.value) says) in
      absurd (omega (arith, next.0, c.in_default.ensures.cases)),
)

pub returns-in_default-said_value : goal.returns-in_default-said_value
returns-in_default-said_value c = (
  λ no. absurd (true≢false (sym no)),
  λ (row, says).
      let next = read_next c.as_slice-columns.result.now c.loop-column.column-index c.column_width.result c.args.encoded.now c.loop-column.rest.now types.Int c.loop-column-test.true c.column_width.ensures.value c.loop-column.invariant.none row
      (subst (λ ts. SaysRow ts c.args.encoded.now row) (sym c.as_slice-columns.ensures.value) says) in
      absurd (c.in_default-said_value.ensures.none next.1.0 (subst (λ b. SaysDatum (get_or c.as_slice-columns.result.now c.loop-column.column-index types.Int) b next.1.0) (sym c.in-Some.ensures.cases.1) next.1.1)),
)

pub loop-column-preserved : goal.loop-column-preserved
loop-column-preserved c = record {
  some = λ row says.
      c.loop-column.invariant.some (lent_datum c.in-Some-said_value._value ∷ row)
      (subst (λ ts. SaysRow ts c.loop-column.rest.now (lent_datum c.in-Some-said_value._value ∷ row)) (sym (drop_more c.as_slice-columns.result.now c.loop-column.column-index types.Int c.loop-column-test.true))
      (c.in-Some.first.now, c.in-Some.others.now, sym (take-append-drop c.column_width.result c.loop-column.rest.now) ∙ ap₂ ◌++◌ (sym c.in-Some.ensures.cases.1) (sym c.in-Some.ensures.cases.2), c.in-Some-said_value.ensures.value, says));
  none = λ row says.
      let next = read_next c.as_slice-columns.result.now c.loop-column.column-index c.column_width.result c.args.encoded.now c.loop-column.rest.now types.Int c.loop-column-test.true c.column_width.ensures.value c.loop-column.invariant.none row says in
      (next.2.0, subst (λ b. SaysRow (drop (c.loop-column.column-index + 1) c.as_slice-columns.result.now) b next.2.0) (sym c.in-Some.ensures.cases.2) next.2.1);
}

pub returns : goal.returns
returns c = subst (λ ts. (IsTrue c.is_empty.result → (row : Row) × SaysRow ts c.args.encoded.now row) × (((row : Row) × SaysRow ts c.args.encoded.now row) → IsTrue c.is_empty.result)) c.as_slice-columns.ensures.value
    (read_whole c.as_slice-columns.result.now c.loop-column.column-index c.args.encoded.now c.loop-column.rest.now c.is_empty.result c.loop-column-test.false c.is_empty.ensures c.loop-column.invariant.some c.loop-column.invariant.none)
