use Rattle.std.proofs.Common.{◌∷◌, [], ◌++◌, map, length, take, ap, sym, ◌∙◌, arith}
use Rattle.std.proofs.lemmas.List.{map_more, map-append, take_all}
use Rattle.rs_value.specs.Kept.{IsShort}
use Rattle.rs_value.specs.View.{datum_of, row_of, literal_datum, literal_row}
use Rattle.rs_value.proofs.FittingLemmas.{literal_left}
use Rattle.rs_value.proofs.fitting.tuple_of.Goals as goal

pub loop-literal-init : goal.loop-literal-init
unfolding row_of
loop-literal-init c = record {
  len = ap length c.new-tuple.ensures;
  row = ap (map datum_of) c.new-tuple.ensures;
  left = c.requires.short;
}

pub loop-literal-preserved : goal.loop-literal-preserved
unfolding row_of
loop-literal-preserved c =
    let left = literal_left IsShort c.args.literals.now c.loop-literal.literal-index c.literal-item.result c.loop-literal-test.true c.literal-item.is c.loop-literal.invariant.left in
    record {
      len = omega (arith, c.push.ensures.len, c.loop-literal.invariant.len);
      row = ap (map datum_of) c.push.ensures.items
          ∙ map-append datum_of c.loop-literal.tuple.items (c.value_of.result ∷ [])
          ∙ ap (λ r. r ++ datum_of c.value_of.result ∷ []) c.loop-literal.invariant.row
          ∙ ap (λ d. literal_row (take c.loop-literal.literal-index c.args.literals.now) ++ d ∷ []) (c.value_of.ensures ∙ ap literal_datum c.literal-item.is)
          ∙ sym (map_more literal_datum c.args.literals.now c.loop-literal.literal-index c.literal-item.result c.loop-literal-test.true);
      left = left.1;
    }

pub returns : goal.returns
unfolding row_of
returns c = c.loop-literal.invariant.row ∙ ap literal_row (take_all c.loop-literal.literal-index c.args.literals.now (omega arith))
