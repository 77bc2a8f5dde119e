use Rattle.std.proofs.Common.{◌≡◌, ◌+◌, ◌≤◌, inl, inr, get_or, ap, subst}
use Rattle.std.proofs.lemmas.List.{get_or_default}
use Rattle.rs_facts.specs.declared.fact.Span.{Span}
use Rattle.rs_facts.specs.Spans.{gap_of}
use Rattle.rs_coalesce.proofs.turn.make_room.Goals as goal

pub returns-then-not-is_full-clause-closed : goal.returns-then-not-is_full-clause-closed
returns-then-not-is_full-clause-closed c = λ all i among. elim (c.close.ensures.closed i among) [
  | inl h ↦ inl h
  | inr h ↦ inr (λ d.
      let here : (get_or c.args.spans.now c.args.next c.index-spans-next.result).lo ≡ (get_or c.args.spans.now c.args.next d).lo = ap (λ (s : Span). s.lo) (get_or_default c.args.spans.now c.args.next c.index-spans-next.result d c.requires.inside) in
      subst (λ n. (get_or c.args.spans.now i d).hi + gap_of c.args.kind ≤ n) here (h d))
]
