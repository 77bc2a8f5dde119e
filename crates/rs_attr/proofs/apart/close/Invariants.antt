use Rattle.std.proofs.Common.{◌⊎◌, ◌+◌, ◌-◌, ◌≤◌, Contains, length}
use Rattle.rs_attr.specs.declared.meant.RowStretch.{RowStretch}
use Rattle.rs_facts.specs.Spans.{gap_of}
use Rattle.rs_attr.proofs.apart.close.Given as goal

abbrev pub invariant-loop-place : goal.invariant-loop-place
invariant-loop-place l = (one : RowStretch) → Contains l.initial.opened.items one → Contains l.opened.items one ⊎ (one.hi + gap_of l.kind ≤ l.lo)

abbrev pub decreases-loop-place : goal.decreases-loop-place
decreases-loop-place l = length l.opened.items - l.place
