use Rattle.std.proofs.Common.{◌∷◌, [], ◌++◌, map, take, length, refl, sym, ap, ◌∙◌, lit<, take_all, arith}
use Rattle.std.proofs.lemmas.List.{take_more, map-append}
use Rattle.rs_facts.specs.Query.{column_at}
use Rattle.rs_syntax.specs.View.{column_tree}
use Rattle.rs_checker.proofs.ColumnLaws.{below_at, column_here}
use Rattle.rs_checker.proofs.columns.chosen.Goals as goal

pub loop-place-init : goal.loop-place-init
loop-place-init c = (ap length c.new-chosen.ensures, ap (map column_tree) c.new-chosen.ensures)

pub push-requires : goal.push-requires
push-requires c = (lit< tt, omega (arith, c.loop-place.invariant.0, c.loop-place-test.true, c.requires.few))

pub loop-place-preserved : goal.loop-place-preserved
loop-place-preserved c =
    let at = column_at (map column_tree c.args.columns.now) in (
      omega (arith, c.push.ensures.len, c.loop-place.invariant.0),
      ap (map column_tree) c.push.ensures.items ∙ map-append column_tree c.loop-place.chosen.items (c.index-columns-from.result ∷ [])
          ∙ (λ i. c.loop-place.invariant.1 i ++ column_here c.args.columns.now c.args.columns.now _ c.from.result c.index-columns-from.result refl c.from.ensures c.index-columns-from.is (below_at (length c.args.columns.now) c.args.places.now c.loop-place.place-index c.loop-place-test.true c.requires.there) i ∷ [])
          ∙ sym (ap (map at) (take_more c.args.places.now c.loop-place.place-index 0 c.loop-place-test.true) ∙ map-append at (take c.loop-place.place-index c.args.places.now) _),
    )

pub returns : goal.returns
returns c = c.loop-place.invariant.1 ∙ ap (map (column_at (map column_tree c.args.columns.now))) (take_all _ _ c.loop-place-test.false)
