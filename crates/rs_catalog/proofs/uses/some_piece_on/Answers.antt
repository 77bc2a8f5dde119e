use Rattle.rs_catalog.proofs.UseLaws.{piece_found, piece_passed, pieces_end}
use Rattle.rs_catalog.proofs.uses.some_piece_on.Goals as goal

pub returns-then-is_piece_on : goal.returns-then-is_piece_on
returns-then-is_piece_on c = piece_found c.args.route.now.bytes c.args.pieces.now c.loop-piece.piece-index c.piece-item.result c.loop-piece.invariant c.loop-piece-test.true c.piece-item.is c.is_piece_on.result c.is_piece_on.ensures c.if-is_piece_on.true

pub loop-piece-preserved : goal.loop-piece-preserved
loop-piece-preserved c = piece_passed c.args.route.now.bytes c.args.pieces.now c.loop-piece.piece-index c.piece-item.result c.loop-piece.invariant c.loop-piece-test.true c.piece-item.is c.is_piece_on.result c.is_piece_on.ensures c.if-is_piece_on.false

pub returns : goal.returns
returns c = pieces_end c.args.route.now.bytes c.args.pieces.now c.loop-piece.piece-index c.loop-piece.invariant c.loop-piece-test.false
