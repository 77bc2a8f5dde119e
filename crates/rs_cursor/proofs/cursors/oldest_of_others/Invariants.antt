use Rattle.rs_catalog.specs.Names.{entries_by_bytes}
use Rattle.rs_cursor.proofs.Lowest.{GoesOn}
use Rattle.rs_cursor.proofs.Oldests.{Counts, IsOther}
use Rattle.rs_cursor.proofs.cursors.oldest_of_others.Given as goal

abbrev pub invariant-loop-other : goal.invariant-loop-other
invariant-loop-other l = GoesOn (Counts (IsOther l.name.bytes)) (entries_by_bytes (λ v. v) l.initial.other-iterator) (entries_by_bytes (λ v. v) l.other-iterator) l.fn.most l.oldest
