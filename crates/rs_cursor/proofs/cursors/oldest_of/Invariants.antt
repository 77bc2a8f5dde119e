use Rattle.rs_catalog.specs.Names.{entries_by_bytes}
use Rattle.rs_cursor.proofs.Lowest.{GoesOn}
use Rattle.rs_cursor.proofs.Oldests.{Counts, IsAny}
use Rattle.rs_cursor.proofs.cursors.oldest_of.Given as goal

abbrev pub invariant-loop-cursor : goal.invariant-loop-cursor
invariant-loop-cursor l = GoesOn (Counts IsAny) (entries_by_bytes (λ v. v) l.initial.cursor-iterator) (entries_by_bytes (λ v. v) l.cursor-iterator) l.fn.most l.oldest
