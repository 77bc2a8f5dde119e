-- The lines so far and those that are left; the names so far and those that are left.
use Rattle.std.specs.FinMap as names
use Rattle.rs_catalog.specs.Names.{entries_by_bytes}
use Rattle.rs_dump.proofs.Fitting.{GoesOn}
use Rattle.rs_dump.proofs.alignments.write_alignments.Given as goal

abbrev pub invariant-loop-name : goal.invariant-loop-name
invariant-loop-name g l =
    GoesOn (names.entries l.catalog.alignments) (entries_by_bytes (λ pieces. pieces) l.name-iterator) l.left_out.items (g.W.Write.contents l.fn.output) (g.W.Write.contents l.output)
