use Rattle.std.proofs.Common.{◌≡◌, take, flat_map}
use Rattle.rs_catalog.specs.Definitions.{pieces_of}
use Rattle.rs_checker.specs.CheckedView.{located_pieces, named_by_piece}
use Rattle.rs_checker.specs.Numbers.{AreNumberedIn}
use Rattle.rs_checker.proofs.alignments.located.Given as goal

-- the pieces so far
abbrev pub invariant-loop-piece : goal.invariant-loop-piece
invariant-loop-piece l = record {
  same : located_pieces l.located.items ≡ pieces_of (take l.piece-index l.pieces);
  numbered : AreNumberedIn l.catalog (flat_map named_by_piece l.located.items);
}
