use Rattle.std.proofs.Common.{◌+◌, drop, map, length, inr, sym, ap, subst, ◌∙◌}
use Rattle.std.proofs.lemmas.Result.{err_from_is_err_and}
use Rattle.rs_syntax.specs.View.{column_tree}
use Rattle.rs_checker.specs.Inner.{AllBelow}
use Rattle.rs_checker.proofs.ColumnLaws.{places_after, places_next, places_done, places_same, below_more}
use Rattle.rs_checker.proofs.columns.places_of.Goals as goal

pub loop-name-init : goal.loop-name-init
loop-name-init c = (ap (λ done. places_after (map column_tree c.args.columns.now.items) done c.args.names.now) c.new-places.ensures.items, subst (AllBelow (length c.args.columns.now.items)) (sym c.new-places.ensures.items) tt)

pub returns-in_err-place_of-clause-refused : goal.returns-in_err-place_of-clause-refused
returns-in_err-place_of-clause-refused c =
    let p = err_from_is_err_and c.from_residual.result c.from_residual.ensures.1 in
    let columns = map column_tree c.args.columns.now.items in
    rw (p.1, p.2) (inr (sym (places_same columns c.args.names.now) ∙ sym c.loop-name.invariant.0
    ∙ places_next columns c.loop-name.places.items c.args.names.now c.loop-name.name-index c.name-item.result _ c.loop-name-test.true c.name-item.is (sym c.in_err-place_of.ensures.place)))

pub loop-name-preserved : goal.loop-name-preserved
loop-name-preserved c =
    let columns = map column_tree c.args.columns.now.items in (
      ap (λ done. places_after columns done (drop (c.loop-name.name-index + 1) c.args.names.now)) c.in_ok-push.ensures.items
          ∙ sym (places_next columns c.loop-name.places.items c.args.names.now c.loop-name.name-index c.name-item.result _ c.loop-name-test.true c.name-item.is (sym c.in_ok-place_of.ensures.place))
          ∙ c.loop-name.invariant.0,
      subst (AllBelow (length c.args.columns.now.items)) (sym c.in_ok-push.ensures.items) (below_more (length c.args.columns.now.items) c.loop-name.places.items c.in_ok-place_of.field-0 c.loop-name.invariant.1 c.in_ok-place_of.ensures.there),
    )

pub returns-clause-ok : goal.returns-clause-ok
returns-clause-ok c =
    let columns = map column_tree c.args.columns.now.items in
    sym (places_same columns c.args.names.now) ∙ sym c.loop-name.invariant.0 ∙ places_done columns c.loop-name.places.items c.args.names.now c.loop-name.name-index c.loop-name-test.false
