use Rattle.rs_cursor.proofs.Lowest.{GoesOn}
use Rattle.rs_cursor.specs.Oldest.{LooksAt}
use Rattle.rs_cursor.proofs.cursors.Cursors.oldest.Given as goal

abbrev pub invariant-loop-cursors : goal.invariant-loop-cursors
invariant-loop-cursors l = GoesOn LooksAt l.initial.cursors-iterator l.cursors-iterator l.fn.most l.oldest
