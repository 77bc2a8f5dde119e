use Rattle.std.proofs.Common.{◌+◌, map, subst, refl, sym, ap, ◌∙◌, arith}
use borrow.Rule.Slice.PartMut.{same_len_mid}
use Rattle.std.proofs.lemmas.List.{length-map}
use Rattle.rs_value.specs.declared.column.ColumnType.TheVariants as types
use Rattle.rs_value.specs.View.{datum_of, row_of}
use Rattle.rs_value.specs.Values.{IsRowOf}
use Rattle.rs_value.specs.Encoding.{row_width, SaysRow}
use Rattle.rs_value.proofs.EncodingSteps.{write_step, write_end, typed_left, row_length, width_left}
use Rattle.rs_value.proofs.encoding.encode.Goals as goal

pub loop-i-init : goal.loop-i-init
unfolding row_of
loop-i-init c =
    let columns = c.as_slice-columns.ensures.value in
    let typed : IsRowOf c.as_slice-columns.result.now (map datum_of c.args.values.now) =
    subst (λ ts. IsRowOf ts (map datum_of c.args.values.now)) (sym columns) c.requires.row in
    record {
      same = sym (length-map c.args.values.now datum_of) ∙ row_length _ _ typed;
      width = c.requires.width ∙ ap row_width (sym columns);
      place = omega arith;
      typed = typed;
      says = λ rest says. says;
    }

pub loop-i-preserved : goal.loop-i-preserved
loop-i-preserved c = record {
  same = c.loop-i.invariant.same;
  width = same_len_mid _ _ _ _ c.encode_value.auto.bytes ∙ c.loop-i.invariant.width;
  place = omega (arith, c.loop-i.invariant.place, c.column_width.ensures.value, width_left c.as_slice-columns.result.now c.loop-i.i types.Int c.loop-i-test.true);
  typed = (typed_left c.as_slice-columns.result.now c.args.values.now c.loop-i.i types.Int c.index-values-i.result c.loop-i-test.true (omega (arith, c.loop-i.invariant.same)) c.index-values-i.is c.loop-i.invariant.typed).1;
  says = write_step c.as_slice-columns.result.now c.args.values.now c.loop-i.i c.loop-i.at (c.loop-i.at + c.column_width.result) c.loop-i.bytes c.encode_value.new.bytes _ types.Int c.index-values-i.result c.loop-i-test.true (omega (arith, c.loop-i.invariant.same)) c.index-values-i.is
      (omega (arith, c.loop-i.invariant.place, c.loop-i.invariant.width)) (omega (arith, c.column_width.ensures.value)) refl c.encode_value.ensures c.loop-i.invariant.says;
}

pub returns : goal.returns
unfolding row_of
returns c =
    let says = write_end c.as_slice-columns.result.now c.args.values.now c.loop-i.i c.loop-i.at c.loop-i.bytes c.loop-i-test.false c.loop-i.invariant.same c.loop-i.invariant.width c.loop-i.invariant.place c.loop-i.invariant.says in
    record {
      says = subst (λ ts. SaysRow ts c.loop-i.bytes (map datum_of c.args.values.now)) c.as_slice-columns.ensures.value says;
    }
