use Rattle.std.proofs.Common.{◌++◌, get_or, sym, subst, ap, ◌∙◌, append_assoc}
use Rattle.rs_value.specs.declared.column.ColumnType.TheVariants as types
use Rattle.rs_value.specs.Encoding.{SaysRow}
use Rattle.rs_value.specs.LentView.{lent_datum}
use Rattle.rs_value.specs.Values.{IsOfType, IsRowOf}
use Rattle.rs_value.specs.Kept.{IsShort}
use Rattle.rs_value.proofs.KeptEncoding.{typed_at, short_at, put_step, put_end}
use Rattle.rs_value.proofs.KeptOrder.{kept_once}
use Rattle.rs_value.proofs.KeptReading.{dropped_more}
use Rattle.rs_value.proofs.kept_encoding.push_encoded.Goals as goal

pub push_said-requires-clause-of_type : goal.push_said-requires-clause-of_type
push_said-requires-clause-of_type c =
    let row = c.loop-column.invariant.typed in
    subst (λ d. IsOfType (get_or c.as_slice-columns.result.now c.loop-column.column-index types.Int) d) (sym (c.first_value.ensures _ (c.loop-column.invariant.left row.0 row.1)))
    (typed_at c.as_slice-columns.result.now row.0 c.loop-column.column-index types.Int c.loop-column-test.true row.2)

pub push_said-requires-clause-short : goal.push_said-requires-clause-short
push_said-requires-clause-short c =
    let row = c.loop-column.invariant.typed in
    let left = c.loop-column.invariant.left row.0 row.1 in
    subst IsShort (sym (c.first_value.ensures _ left)) (short_at _ _ left)

pub loop-column-preserved : goal.loop-column-preserved
loop-column-preserved c = record {
  left = λ row h. dropped_more c.loop-column.rest.now _ c.loop-column.column-index row c.split_first.ensures.rest (c.loop-column.invariant.left row h);
  typed = c.loop-column.invariant.typed;
  says = λ row h.
      let before = c.loop-column.invariant.says row h in
      let one = c.in_ok-push_said.ensures in
      let typed = subst (λ r. IsRowOf c.as_slice-columns.result.now r) (kept_once c.args.kept.now _ row c.loop-column.invariant.typed.1 h) c.loop-column.invariant.typed.2 in (
        before.0 ++ one.0,
        one.2 ∙ ap (λ l. l ++ one.0) before.1 ∙ append_assoc _ before.0 one.0,
        put_step c.as_slice-columns.result.now row c.loop-column.column-index types.Int before.0 one.0 (lent_datum c.first_value.result) c.loop-column-test.true typed (c.first_value.ensures _ (c.loop-column.invariant.left row h)) one.1 before.2,
      );
}

pub returns : goal.returns
returns c row h =
    let typed = subst (λ r. IsRowOf c.as_slice-columns.result.now r) (kept_once c.args.kept.now _ row c.loop-column.invariant.typed.1 h) c.loop-column.invariant.typed.2 in
    let before = c.loop-column.invariant.says row h in
    (before.0, subst (λ ts. SaysRow ts before.0 row) c.as_slice-columns.ensures.value (put_end c.as_slice-columns.result.now row c.loop-column.column-index before.0 c.loop-column-test.false typed before.2), before.1)
