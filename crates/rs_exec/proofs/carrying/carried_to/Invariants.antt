use Rattle.std.proofs.Common.{drop, map}
use Rattle.rs_facts.specs.Spans.{seen}
use Rattle.rs_exec.proofs.Gathering.{Gathers}
use Rattle.rs_exec.proofs.carrying.carried_to.Given as goal

-- what is gathered with what the rest carries is all that is carried
abbrev pub invariant-loop-piece : goal.invariant-loop-piece
invariant-loop-piece l = Gathers l.sources l.number (drop l.piece-index l.pieces) (map seen l.gathered.items)
