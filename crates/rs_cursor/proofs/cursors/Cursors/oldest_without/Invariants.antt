use Rattle.std.proofs.Common.{map}
use Rattle.rs_cursor.proofs.Lowest.{GoesOn}
use Rattle.rs_cursor.proofs.Oldests.{without}
use Rattle.rs_cursor.specs.Oldest.{LooksAt}
use Rattle.rs_cursor.proofs.cursors.Cursors.oldest_without.Given as goal

abbrev pub invariant-loop-number : goal.invariant-loop-number
invariant-loop-number l = GoesOn LooksAt (map (λ e. without l.session l.name.bytes e.0 e.1) l.initial.number-iterator) (map (λ e. without l.session l.name.bytes e.0 e.1) l.number-iterator) l.fn.most l.oldest
