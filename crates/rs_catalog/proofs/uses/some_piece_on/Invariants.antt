use Rattle.std.proofs.Common.{◌≡◌, drop}
use Rattle.rs_catalog.proofs.UseLaws.{some_of_pieces}
use Rattle.rs_catalog.proofs.uses.some_piece_on.Given as goal

abbrev pub invariant-loop-piece : goal.invariant-loop-piece
invariant-loop-piece l = some_of_pieces l.route.bytes l.pieces ≡ some_of_pieces l.route.bytes (drop l.piece-index l.pieces)
