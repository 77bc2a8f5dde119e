use Rattle.std.proofs.Common.{drop}
use Rattle.rs_catalog.specs.Definitions.{routes_of}
use Rattle.rs_checker.proofs.AlignmentLaws.{IsPassed}
use Rattle.rs_checker.proofs.alignments.check_pieces.Given as goal

abbrev pub invariant-loop-piece : goal.invariant-loop-piece
invariant-loop-piece l = IsPassed (routes_of l.catalog) l.pieces (drop l.piece-index l.pieces)
