use Rattle.std.proofs.Common.{◌+◌, ◌-◌, ◌≤◌, ◌⊎◌, ℕ, length, get_or, Contains}
use Rattle.rs_facts.specs.declared.fact.Span.{Span}
use Rattle.rs_facts.specs.Spans.{gap_of}
use Rattle.rs_coalesce.proofs.turn.close.Given as goal

abbrev pub invariant-loop-place : goal.invariant-loop-place
invariant-loop-place l = record {
  kept : (i : ℕ) → Contains l.opened.items i → Contains l.initial.opened.items i;
  closed : (i : ℕ) → Contains l.initial.opened.items i → Contains l.opened.items i ⊎ ((d : Span) → (get_or l.spans i d).hi + gap_of l.kind ≤ l.lo);
}

abbrev pub decreases-loop-place : goal.decreases-loop-place
decreases-loop-place l = length l.opened.items - l.place
