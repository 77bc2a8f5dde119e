use Rattle.std.proofs.Common.{◌≡◌, ℕ, List, Option, ◌++◌, length}
use Rattle.rs_machine.specs.Served.{Machine}
use Rattle.rs_protocol.specs.Inner.{IsServed}
use Rattle.rs_protocol.proofs.lines.take_piece.Given as goal

-- the lines up to the rest of the piece are served, by steps alone
abbrev pub invariant-loop-place : goal.invariant-loop-place
invariant-loop-place g l = (front : List ℕ) × (l.initial.rest ≡ front ++ l.rest) × g.E.Serve.becomes l.initial.engine l.engine
    × ((told : List ℕ) (first old : Machine) (before : Option (List ℕ)) → g.E.Serve.is l.initial.engine old →
    IsServed l.initial.kept.items l.initial.pending.items told first old before (g.W.Write.contents l.initial.writer) →
    (new : Machine) × g.E.Serve.is l.engine new
    × IsServed l.kept.items l.pending.items (told ++ front) first new before (g.W.Write.contents l.writer))

abbrev pub decreases-loop-place : goal.decreases-loop-place
decreases-loop-place g l = length l.rest
