use Rattle.std.proofs.Common.{◌≡◌, map, take}
use Rattle.rs_catalog.specs.Definitions.{pieces_of}
use Rattle.rs_catalog_meaning.specs.Stating as stating
use Rattle.rs_catalog_pages.specs.Said.{said_piece, said_route}
use Rattle.rs_catalog_pages.specs.declared.items.StoredPiece.{StoredPiece}
use Rattle.rs_stored_catalog.proofs.entries.pieces.Given as goal

-- the pieces so far
abbrev pub invariant-loop-piece : goal.invariant-loop-piece
invariant-loop-piece l = pieces_of l.made.items ≡ map (λ (p : StoredPiece). stating.piece_of (map said_route l.routes) (said_piece p)) (take l.piece-index l.stored)
