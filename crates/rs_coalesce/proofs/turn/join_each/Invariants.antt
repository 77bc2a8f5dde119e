use Rattle.rs_coalesce.proofs.OpenRuns.{Turn}
use Rattle.rs_coalesce.proofs.turn.join_each.Given as goal

abbrev pub invariant-loop-next : goal.invariant-loop-next
invariant-loop-next l = Turn l.kind l.initial.spans l.spans l.made l.next l.opened.items l.are_all
