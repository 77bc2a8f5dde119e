-- Each so far is one that a line says.
use Rattle.std.proofs.Common.{map}
use Rattle.std.specs.List.{AllWithin}
use Rattle.rs_catalog_pages.specs.Said.{said_piece, said_route}
use Rattle.rs_catalog_meaning.specs.Meaning.{IsPiece}
use Rattle.rs_catalog_meaning.proofs.alignments.is_each_piece.Given as goal

abbrev pub invariant-loop-piece : goal.invariant-loop-piece
invariant-loop-piece l = AllWithin (λ item. IsPiece (map said_route l.routes) (said_piece item)) l.pieces 0 l.piece-index
