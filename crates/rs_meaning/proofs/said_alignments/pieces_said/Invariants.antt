use Rattle.std.proofs.Common.{take}
use Rattle.std.specs.Prelude.{map}
use Rattle.rs_syntax.specs.View.{piece_tree}
use Rattle.rs_syntax.specs.Written.{SaysPieces}
use Rattle.rs_meaning.proofs.said_alignments.pieces_said.Given as goal

abbrev pub invariant-loop-part : goal.invariant-loop-part
invariant-loop-part l = SaysPieces l.line (take l.part-index l.written) (map piece_tree l.pieces.items)
