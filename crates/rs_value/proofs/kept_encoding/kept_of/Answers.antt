use Rattle.std.proofs.Common.{◌+◌, [], ◌∷◌, ◌++◌, drop, sym, subst, ◌∙◌, arith, take-append-drop, get_or, ap₂, rules}
use Rattle.std.proofs.lemmas.List.{nil_from_length}
use Rattle.rs_value.specs.declared.column.ColumnType.TheVariants as types
use Rattle.rs_value.specs.Encoding.{SaysDatum, SaysRow}
use Rattle.rs_value.specs.LentView.{lent_datum}
use Rattle.rs_value.proofs.EncodingSteps.{read_next}
use Rattle.rs_value.proofs.KeptEncoding.{said_may, take_step, take_end, pushed}
use Rattle.rs_value.proofs.kept_encoding.kept_of.Goals as goal

pub returns-in_default-clause-none : goal.returns-in_default-clause-none
returns-in_default-clause-none c row says =
    let next = read_next c.as_slice-columns.result.now c.loop-column.column-index c.column_width.result c.args.encoded.now c.loop-column.rest.now types.Int c.loop-column-test.true c.column_width.ensures.value c.loop-column.invariant.none row
    (subst (λ ts. SaysRow ts c.args.encoded.now row) (sym c.as_slice-columns.ensures.value) says) in
    absurd (omega (arith, next.0, c.in_default.ensures.cases))

pub returns-in_default-said_value-clause-none : goal.returns-in_default-said_value-clause-none
returns-in_default-said_value-clause-none c row says =
    let next = read_next c.as_slice-columns.result.now c.loop-column.column-index c.column_width.result c.args.encoded.now c.loop-column.rest.now types.Int c.loop-column-test.true c.column_width.ensures.value c.loop-column.invariant.none row
    (subst (λ ts. SaysRow ts c.args.encoded.now row) (sym c.as_slice-columns.ensures.value) says) in
    c.in_default-said_value.ensures.none next.1.0 (subst (λ b. SaysDatum (get_or c.as_slice-columns.result.now c.loop-column.column-index types.Int) b next.1.0) (sym c.in-Some.ensures.cases.1) next.1.1)

pub loop-column-preserved : goal.loop-column-preserved
loop-column-preserved c =
    let front = c.loop-column.invariant.some.0 in
    let datum = lent_datum c.in-Some-said_value.value in
    record {
      some = (
        front ++ datum ∷ [],
        pushed c.loop-column.bytes.items c.push_kept.new.bytes.items datum front c.loop-column.invariant.some.1 (said_may (get_or c.as_slice-columns.result.now c.loop-column.column-index types.Int) c.in-Some.first.now datum c.in-Some-said_value.ensures.value) c.in_ok-push_kept.ensures,
        take_step c.as_slice-columns.result.now c.loop-column.column-index c.args.encoded.now c.loop-column.rest.now c.in-Some.others.now c.in-Some.first.now types.Int datum front
            c.loop-column-test.true (sym (take-append-drop c.column_width.result c.loop-column.rest.now) ∙ ap₂ ◌++◌ (sym c.in-Some.ensures.cases.1) (sym c.in-Some.ensures.cases.2)) c.in-Some-said_value.ensures.value c.loop-column.invariant.some.2,
      );
      none = λ row says.
          let next = read_next c.as_slice-columns.result.now c.loop-column.column-index c.column_width.result c.args.encoded.now c.loop-column.rest.now types.Int c.loop-column-test.true c.column_width.ensures.value c.loop-column.invariant.none row says in
          (next.2.0, subst (λ b. SaysRow (drop (c.loop-column.column-index + 1) c.as_slice-columns.result.now) b next.2.0) (sym c.in-Some.ensures.cases.2) next.2.1);
    }

pub returns-then-is_empty-clause-row : goal.returns-then-is_empty-clause-row
returns-then-is_empty-clause-row c =
    let front = c.loop-column.invariant.some.0 in (
      front,
      c.loop-column.invariant.some.1,
      subst (λ ts. SaysRow ts c.args.encoded.now front) c.as_slice-columns.ensures.value
          (take_end c.as_slice-columns.result.now c.loop-column.column-index c.args.encoded.now c.loop-column.rest.now front c.loop-column-test.false (nil_from_length c.loop-column.rest.now (search rules)) c.loop-column.invariant.some.2),
    )
