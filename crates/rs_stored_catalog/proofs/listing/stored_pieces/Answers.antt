use Rattle.std.proofs.Common.{map, sym, ap, ◌∙◌}
use Rattle.std.proofs.lemmas.List.{take_all}
use Rattle.std.proofs.lemmas.Simd.{map-map}
use Rattle.rs_machine.specs.Checks.{piece_of}
use Rattle.rs_syntax.specs.View.{piece_tree}
use Rattle.rs_syntax.specs.declared.commands.Piece.{Piece}
use Rattle.rs_stored_catalog.specs.Listing.{listed_piece}
use Rattle.rs_stored_catalog.proofs.listing.stored_pieces.Goals as goal

pub returns : goal.returns
returns c =
    c.loop-piece.invariant ∙ ap (map (λ (piece : Piece). listed_piece c.args.catalog.now.routes (piece_of (piece_tree piece)))) (take_all _ _ c.loop-piece-test.false)
    ∙ sym (map-map (listed_piece c.args.catalog.now.routes) (λ (piece : Piece). piece_of (piece_tree piece)) c.args.pieces.now)
