-- The name and the pieces are counted, and each piece fits.
use Rattle.std.proofs.Common.{All, arith, subst, sym}
use Rattle.std.proofs.lemmas.List.{length-map}
use Rattle.std.proofs.lemmas.List.Elements.{All-map}
use Rattle.rs_catalog_pages.specs.Fitting.{FitsPiece}
use Rattle.rs_catalog_pages.specs.Said.{said_piece}
use Rattle.rs_catalog_pages.specs.declared.items.StoredPiece.{StoredPiece}
use Rattle.rs_store.proofs.Listed.{all_seen}
use Rattle.rs_store.proofs.fitting.does_alignment_fit.Goals as goal

pub returns : goal.returns
returns c =
    let pieces = c.args.alignment.now.pieces.list.items in
    let fit = All (λ (piece : StoredPiece). FitsPiece (said_piece piece)) in (
      λ e. record {
        name = omega arith;
        few = omega (arith, length-map pieces said_piece);
        pieces = All-map FitsPiece said_piece pieces (subst fit c.as_slice.ensures.value (c.do_pieces_fit.ensures.0 e));
      },
      λ fits. c.do_pieces_fit.ensures.1 (subst fit (sym c.as_slice.ensures.value) (all_seen FitsPiece said_piece pieces fits.pieces)),
    )
