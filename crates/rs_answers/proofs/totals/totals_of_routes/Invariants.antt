use Rattle.std.proofs.Common.{take}
use Rattle.rs_facts.specs.Query.{Query}
use Rattle.rs_machine.specs.State.{State}
use Rattle.rs_exec.specs.Leaving.{LeavesBehind}
use Rattle.rs_total.specs.Totalling.{AreTotalsOf}
use Rattle.rs_answers.specs.Plans.{IsPlanFor}
use Rattle.rs_answers.specs.Standing.{StandsAt}
use Rattle.rs_answers.proofs.TotalRows.{along_so_far}
use Rattle.rs_answers.proofs.totals.totals_of_routes.Given as goal

abbrev pub invariant-loop-named : goal.invariant-loop-named
invariant-loop-named g l = record {
  leaves : LeavesBehind g.E.Source l.initial.e l.e;
  added : (query : Query) → IsPlanFor (g.E.InMemory.definitions l.initial.e) query l.asked.plan.now → (state : State) → StandsAt g.E.Source.is g.E.InMemory.definitions g.E.InMemory.held_referents l.asked.version l.initial.e state
      → AreTotalsOf l.fn.group.items l.fn.column (along_so_far state query (take l.named-index l.named-items)) l.totals;
}
