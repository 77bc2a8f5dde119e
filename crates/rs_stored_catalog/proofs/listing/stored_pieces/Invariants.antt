use Rattle.std.proofs.Common.{◌≡◌, map, take}
use Rattle.rs_catalog_pages.specs.Said.{said_piece}
use Rattle.rs_machine.specs.Checks.{piece_of}
use Rattle.rs_syntax.specs.View.{piece_tree}
use Rattle.rs_syntax.specs.declared.commands.Piece.{Piece}
use Rattle.rs_stored_catalog.specs.Listing.{listed_piece}
use Rattle.rs_stored_catalog.proofs.listing.stored_pieces.Given as goal

-- the pieces so far
abbrev pub invariant-loop-piece : goal.invariant-loop-piece
invariant-loop-piece l = map said_piece l.stored.items ≡ map (λ (piece : Piece). listed_piece l.catalog.routes (piece_of (piece_tree piece))) (take l.piece-index l.pieces)
