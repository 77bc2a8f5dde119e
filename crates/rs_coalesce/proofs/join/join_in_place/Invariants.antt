use Rattle.std.proofs.Common.{◌≡◌, ◌<◌, ◌++◌, length, map, take, drop, get_or}
use Rattle.rs_facts.specs.declared.fact.Span.{Span}
use Rattle.rs_facts.specs.Spans.{seen}
use Rattle.rs_coalesce.specs.Joined.{joined, joined_onto}
use Rattle.rs_coalesce.proofs.join.join_in_place.Given as goal

-- What is joined so far, and the rest joined onto the last of it, is all of it joined.
abbrev pub invariant-loop-next : goal.invariant-loop-next
invariant-loop-next l = record {
  last_below : l.last < l.next;
  as_long : length l.spans ≡ length l.initial.spans;
  so_far : (d : Span) → map seen (take l.last l.spans) ++ joined_onto l.kind (seen (get_or l.spans l.last d)) (map seen (drop l.next l.spans)) ≡ joined l.kind (map seen l.initial.spans);
}
