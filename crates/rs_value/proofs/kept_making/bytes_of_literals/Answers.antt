use Rattle.std.proofs.Common.{◌++◌, ◌∷◌, [], take, refl, sym, subst, ap, ◌∙◌, arith}
use Rattle.std.proofs.lemmas.List.{map_more, take_all}
use Rattle.rs_value.specs.Kept.{MayBeKept}
use Rattle.rs_value.specs.View.{literal_datum, literal_row}
use Rattle.rs_value.specs.LentView.{lent_datum}
use Rattle.rs_value.proofs.FittingLemmas.{literal_left}
use Rattle.rs_value.proofs.KeptRows.{keeps_none, keeps_is}
use Rattle.rs_value.proofs.KeptEncoding.{pushed}
use Rattle.rs_value.proofs.kept_making.bytes_of_literals.Goals as goal

pub loop-literal-init : goal.loop-literal-init
loop-literal-init c = record {
  kept = keeps_is _ _ _ _ (sym c.in_ok-bytes.ensures.items) refl keeps_none;
  left = c.requires;
}

pub loop-literal-preserved : goal.loop-literal-preserved
loop-literal-preserved c =
    let left = literal_left MayBeKept c.args.literals.now c.loop-literal.literal-index c.literal-item.result c.loop-literal-test.true c.literal-item.is c.loop-literal.invariant.left in
    let said = c.lent_literal.ensures in
    record {
      kept = keeps_is _ _ _ _ refl
          (ap (λ d. literal_row (take c.loop-literal.literal-index c.args.literals.now) ++ d ∷ []) (said ∙ ap literal_datum c.literal-item.is) ∙ sym (map_more literal_datum c.args.literals.now c.loop-literal.literal-index c.literal-item.result c.loop-literal-test.true))
          (pushed c.loop-literal.bytes.items c.push_kept.new.bytes.items (lent_datum c.lent_literal.result) _ c.loop-literal.invariant.kept (subst MayBeKept (sym said) left.0) c.in_ok-push_kept.ensures);
      left = left.1;
    }

pub returns : goal.returns
returns c = keeps_is _ _ _ _ refl (ap literal_row (take_all c.loop-literal.literal-index c.args.literals.now (omega arith))) c.loop-literal.invariant.kept
