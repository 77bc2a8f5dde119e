use Rattle.std.proofs.Common.{flat_map, sym, ap, subst, ◌∙◌}
use Rattle.std.proofs.lemmas.List.{take_all}
use Rattle.rs_catalog.specs.Definitions.{routes_of, pieces_of}
use Rattle.rs_checker.specs.CheckedView.{located_pieces, named_by_piece}
use Rattle.rs_checker.specs.Numbers.{AreNumberedIn}
use Rattle.rs_checker.proofs.NumberLaws.{piece-at, pieces-more, pieces-numbered}
use Rattle.rs_checker.proofs.alignments.located.Goals as goal

pub loop-piece-init : goal.loop-piece-init
loop-piece-init c = record {
  same = ap located_pieces c.in_ok-located.ensures.items;
  numbered = subst (λ items. AreNumberedIn c.args.catalog.now (flat_map named_by_piece items)) (sym c.in_ok-located.ensures.items) tt;
}

pub located_piece-requires : goal.located_piece-requires
located_piece-requires c = piece-at (routes_of c.args.catalog.now) c.args.pieces.now c.loop-piece.piece-index c.piece-item.result c.loop-piece-test.true c.piece-item.is c.requires

pub loop-piece-preserved : goal.loop-piece-preserved
loop-piece-preserved c = record {
  same = ap located_pieces c.in_ok-push.ensures.items
      ∙ pieces-more c.args.pieces.now c.loop-piece.piece-index c.piece-item.result c.loop-piece-test.true c.piece-item.is c.loop-piece.located.items c.located_piece.result c.loop-piece.invariant.same c.located_piece.ensures.same;
  numbered = subst (λ items. AreNumberedIn c.args.catalog.now (flat_map named_by_piece items)) (sym c.in_ok-push.ensures.items)
      (pieces-numbered c.args.catalog.now c.loop-piece.located.items c.located_piece.result c.loop-piece.invariant.numbered c.located_piece.ensures.numbered);
}

pub returns-clause-same : goal.returns-clause-same
returns-clause-same c = c.loop-piece.invariant.same ∙ ap pieces_of (take_all _ _ c.loop-piece-test.false)
