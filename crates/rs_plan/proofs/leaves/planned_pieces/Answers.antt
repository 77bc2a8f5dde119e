use Rattle.std.proofs.Common.{map, flat_map, ap, ◌∙◌}
use Rattle.std.proofs.lemmas.List.{take_all}
use Rattle.rs_checker.specs.CheckedView as checked
use Rattle.rs_plan.specs.PlanView.{piece_of, named_by_piece}
use Rattle.rs_plan.proofs.Walks.{mapped-more, flat-more}
use Rattle.rs_plan.proofs.leaves.planned_pieces.Goals as goal

pub loop-piece-preserved : goal.loop-piece-preserved
loop-piece-preserved c = record {
  means = ap (map piece_of) c.in_ok-push.ensures.items
      ∙ mapped-more piece_of checked.located_piece c.loop-piece.planned.items c.args.pieces.now c.loop-piece.piece-index c.planned_piece.result c.piece-item.result c.loop-piece-test.true c.piece-item.is c.loop-piece.invariant.means c.planned_piece.ensures.means;
  names = ap (flat_map named_by_piece) c.in_ok-push.ensures.items
      ∙ flat-more named_by_piece checked.named_by_piece c.loop-piece.planned.items c.args.pieces.now c.loop-piece.piece-index c.planned_piece.result c.piece-item.result c.loop-piece-test.true c.piece-item.is c.loop-piece.invariant.names c.planned_piece.ensures.names;
}

pub returns-clause-means : goal.returns-clause-means
returns-clause-means c = c.loop-piece.invariant.means ∙ ap checked.located_pieces (take_all _ _ c.loop-piece-test.false)

pub returns-clause-names : goal.returns-clause-names
returns-clause-names c = c.loop-piece.invariant.names ∙ ap (flat_map checked.named_by_piece) (take_all _ _ c.loop-piece-test.false)
