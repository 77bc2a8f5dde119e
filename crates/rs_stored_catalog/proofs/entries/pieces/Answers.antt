use Rattle.std.proofs.Common.{map, sym, ap, ◌∙◌}
use Rattle.std.proofs.lemmas.List.{take_all}
use Rattle.std.proofs.lemmas.Simd.{map-map}
use Rattle.rs_catalog.specs.Definitions.{pieces_of}
use Rattle.rs_catalog_meaning.specs.Meaning.{IsPiece}
use Rattle.rs_catalog_meaning.specs.Stating as stating
use Rattle.rs_catalog_pages.specs.Said.{said_piece, said_route}
use Rattle.rs_catalog_pages.specs.declared.items.StoredPiece.{StoredPiece}
use Rattle.rs_machine.specs.Checks.{piece_of}
use Rattle.rs_syntax.specs.View.{piece_tree}
use Rattle.rs_syntax.specs.declared.commands.Piece.{Piece}
use Rattle.rs_stored_catalog.proofs.Entering.{each_at, mapped-at}
use Rattle.rs_stored_catalog.proofs.entries.pieces.Goals as goal

pub loop-piece-init : goal.loop-piece-init
loop-piece-init c = ap pieces_of c.in_ok-made.ensures.items

pub piece_between-requires-clause-piece : goal.piece_between-requires-clause-piece
piece_between-requires-clause-piece c =
    each_at said_piece (IsPiece (map said_route c.args.routes.now)) c.args.stored.now c.loop-piece.piece-index _ c.loop-piece-test.true c.requires.pieces

pub loop-piece-preserved : goal.loop-piece-preserved
loop-piece-preserved c =
    ap pieces_of c.in_ok-push.ensures.items
    ∙ mapped-at (λ (piece : Piece). piece_of (piece_tree piece)) (λ (p : StoredPiece). stating.piece_of (map said_route c.args.routes.now) (said_piece p)) c.loop-piece.made.items c.piece_between.result
    c.args.stored.now c.loop-piece.piece-index _ c.loop-piece-test.true c.loop-piece.invariant c.piece_between.ensures

pub returns : goal.returns
returns c =
    c.loop-piece.invariant ∙ ap (map (λ (p : StoredPiece). stating.piece_of (map said_route c.args.routes.now) (said_piece p))) (take_all _ _ c.loop-piece-test.false)
    ∙ sym (map-map (stating.piece_of (map said_route c.args.routes.now)) said_piece c.args.stored.now)
