use Rattle.std.proofs.Common.{◌≡◌, ℕ, drop, map}
use Rattle.rs_value.specs.declared.column.Kind.{Kind}
use Rattle.rs_coalesce.specs.Joined.{AreJoined}
use Rattle.rs_facts.specs.ConditionView.{condition_of}
use Rattle.rs_facts.specs.Spans.{seen, places_of, ArePlaced}
use Rattle.rs_planning.specs.Plan.{met_by_each}
use Rattle.rs_sweep.specs.Lists.{AreSorted, AreWide}
use Rattle.rs_exec.proofs.changes.select_each.Given as goal

-- what is left, as far as it meets the rest of the conditions, is all that meets all of them
abbrev pub invariant-loop-condition : goal.invariant-loop-condition
invariant-loop-condition l = record {
  means : (k : ℕ) → met_by_each (map condition_of (drop l.condition-index l.conditions)) (places_of (map seen l.spans.items) k) ≡ met_by_each (map condition_of l.conditions) (places_of (map seen l.fn.spans.items) k);
  sorted : AreSorted (map seen l.spans.items);
  placed : (kind : Kind) → ArePlaced kind (map seen l.fn.spans.items) → ArePlaced kind (map seen l.spans.items);
  wide : (width : ℕ) → AreWide width (map seen l.fn.spans.items) → AreWide width (map seen l.spans.items);
  joined : (kind : Kind) → AreJoined kind (map seen l.fn.spans.items) → AreJoined kind (map seen l.spans.items);
}
