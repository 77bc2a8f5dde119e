use Rattle.std.proofs.Common.{◌≡◌, ◌<◌, ◌≤◌, ℕ, false, length, get_or}
use Rattle.rs_facts.specs.declared.fact.Span.{Span}
use Rattle.rs_facts.specs.Spans.{seen}
use Rattle.rs_coalesce.specs.Joined.{joins}
use Rattle.rs_coalesce.proofs.turn.open_run.Given as goal

-- the span is one with none of the runs looked at, from the last one on
abbrev pub invariant-loop-place : goal.invariant-loop-place
invariant-loop-place l = record {
  within : l.place ≤ length l.opened;
  none : (k e : ℕ) (d : Span) → l.place ≤ k → k < length l.opened → joins l.kind (seen (get_or l.spans (get_or l.opened k e) d)) (seen (get_or l.spans l.next d)) ≡ false;
}

abbrev pub decreases-loop-place : goal.decreases-loop-place
decreases-loop-place l = l.place
