use Rattle.std.proofs.Common.{refl}
use Rattle.std.proofs.lemmas.Result.{err_from_is_err_and}
use Rattle.rs_catalog.specs.Definitions.{routes_of}
use Rattle.rs_checker.proofs.AlignmentLaws.{none_passed, piece_refused, one_passed, all_passed}
use Rattle.rs_checker.proofs.alignments.check_pieces.Goals as goal

pub loop-piece-init : goal.loop-piece-init
loop-piece-init c = none_passed (routes_of c.args.catalog.now) c.args.pieces.now

pub returns-in_err-check_piece-clause-refused : goal.returns-in_err-check_piece-clause-refused
returns-in_err-check_piece-clause-refused c =
    let p = err_from_is_err_and c.from_residual.result c.from_residual.ensures.1 in
    rw (p.1, p.2) (piece_refused (routes_of c.args.catalog.now) c.args.pieces.now c.loop-piece.piece-index c.loop-piece.invariant c.piece-item.result c.loop-piece-test.true c.piece-item.is c.in_err-check_piece.field-0.0 c.in_err-check_piece.ensures.refused)

pub loop-piece-preserved : goal.loop-piece-preserved
loop-piece-preserved c = one_passed (routes_of c.args.catalog.now) c.args.pieces.now c.loop-piece.piece-index c.loop-piece.invariant c.piece-item.result c.loop-piece-test.true c.piece-item.is c.in_ok-check_piece.ensures.ok c.in_ok-check_piece.ensures.lies

pub returns-clause-ok : goal.returns-clause-ok
returns-clause-ok c = (all_passed (routes_of c.args.catalog.now) c.args.pieces.now c.loop-piece.piece-index c.loop-piece.invariant c.loop-piece-test.false).ok refl

pub returns-clause-lie : goal.returns-clause-lie
returns-clause-lie c = (all_passed (routes_of c.args.catalog.now) c.args.pieces.now c.loop-piece.piece-index c.loop-piece.invariant c.loop-piece-test.false).lie tt
