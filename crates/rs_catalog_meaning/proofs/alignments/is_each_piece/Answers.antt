-- Each in turn.
use Rattle.std.proofs.Common.{map, sym, ◌∙◌, arith}
use Rattle.std.proofs.lemmas.Bool.{false≢true}
use Rattle.rs_catalog_pages.specs.Said.{said_piece, said_route}
use Rattle.rs_catalog_pages.specs.declared.items.StoredPiece.{StoredPiece}
use Rattle.rs_catalog_meaning.specs.Meaning.{IsPiece}
use Rattle.rs_catalog_meaning.proofs.Each.{all_said, more_at, not_said}
use Rattle.rs_catalog_meaning.proofs.alignments.is_each_piece.Goals as goal

pub returns-then-not-is_piece : goal.returns-then-not-is_piece
returns-then-not-is_piece c =
    not_said said_piece (IsPiece (map said_route c.args.routes.now)) c.args.pieces.now c.loop-piece.piece-index _ c.loop-piece-test.true
    (λ is. false≢true (sym c.if-not-is_piece.true ∙ c.is_piece.ensures.1 is))

pub loop-piece-preserved : goal.loop-piece-preserved
loop-piece-preserved c =
    more_at (λ (piece : StoredPiece). IsPiece (map said_route c.args.routes.now) (said_piece piece)) c.args.pieces.now c.loop-piece.piece-index _ c.loop-piece-test.true
    c.loop-piece.invariant (c.is_piece.ensures.0 c.if-not-is_piece.false)

pub returns : goal.returns
returns c = all_said said_piece (IsPiece (map said_route c.args.routes.now)) c.args.pieces.now c.loop-piece.piece-index (omega arith) c.loop-piece.invariant
