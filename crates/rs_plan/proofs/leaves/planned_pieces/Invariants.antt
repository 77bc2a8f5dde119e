use Rattle.std.proofs.Common.{◌≡◌, map, flat_map, take}
use Rattle.rs_checker.specs.CheckedView as checked
use Rattle.rs_plan.specs.PlanView.{piece_of, named_by_piece}
use Rattle.rs_plan.proofs.leaves.planned_pieces.Given as goal

abbrev pub invariant-loop-piece : goal.invariant-loop-piece
invariant-loop-piece l = record {
  means : map piece_of l.planned.items ≡ checked.located_pieces (take l.piece-index l.pieces);
  names : flat_map named_by_piece l.planned.items ≡ flat_map checked.named_by_piece (take l.piece-index l.pieces);
}
