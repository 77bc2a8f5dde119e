-- The views that are left are views, and what the round has done before them.
use Rattle.rs_catalog.specs.Names.{entries_by_bytes}
use Rattle.rs_dump.proofs.Rounds.{RoundGoesOn}
use Rattle.rs_dump.proofs.views.write_ready.Given as goal

abbrev pub invariant-loop-name : goal.invariant-loop-name
invariant-loop-name g l =
    RoundGoesOn l.defined l.fn.sorted l.sorted (entries_by_bytes (λ view. view) l.name-iterator) (g.W.Write.contents l.fn.output) (g.W.Write.contents l.output)
