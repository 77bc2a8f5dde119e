-- A span that is met is copied after those before it, and its copy has the same row.
use Rattle.std.proofs.Common.{◌≡◌, map, filter, take, true, false, cond, Bool, List, [], ◌∷◌, ◌+◌, ◌++◌, refl, ap, sym, ◌∙◌}
use Rattle.std.proofs.lemmas.List.{map_push, map_more}
use Rattle.rs_facts.specs.Runs.{Stretch, stretch}
use Rattle.rs_facts.specs.Spans.{seen}
use Rattle.rs_exec.specs.Carried.{meets}
use Rattle.rs_exec.proofs.CarriedSpans.{filter-last}
use Rattle.rs_exec.proofs.copies.copies_meeting.Goals as goal
use Rattle.rs_exec.proofs.copies.copies_meeting.Goals.{then-is_met+in_ok-copied+in_ok-push, else-is_met}

append_nil : (xs : List Stretch) → xs ++ [] ≡ xs
append_nil [] = refl
append_nil (x ∷ xs) = ap (λ r. x ∷ r) (append_nil xs)

-- what is met of one span more
more : (c : goal.Joined-is_met) (test : Bool) → meets c.args.from c.args.to (seen c.span-item.result) ≡ test
    → filter (meets c.args.from c.args.to) (map seen (take (c.loop-span.span-index + 1) c.args.spans.now)) ≡ map seen c.loop-span.copies.items ++ cond test (seen c.span-item.result ∷ []) []
more c test is =
    ap (filter (meets c.args.from c.args.to)) (map_more seen c.args.spans.now c.loop-span.span-index c.span-item.result c.loop-span-test.true)
    ∙ ap (λ span. filter (meets c.args.from c.args.to) (map seen (take c.loop-span.span-index c.args.spans.now) ++ seen span ∷ [])) (sym c.span-item.is)
    ∙ filter-last (meets c.args.from c.args.to) (map seen (take c.loop-span.span-index c.args.spans.now)) (seen c.span-item.result)
    ∙ ap (λ front. front ++ cond (meets c.args.from c.args.to (seen c.span-item.result)) (seen c.span-item.result ∷ []) []) (sym c.loop-span.invariant)
    ∙ ap (λ t. map seen c.loop-span.copies.items ++ cond t (seen c.span-item.result ∷ []) []) is

pub loop-span-preserved : goal.loop-span-preserved
loop-span-preserved c = elim c.if-is_met.branch [
  | then-is_met+in_ok-copied+in_ok-push w ↦
      let old = c.span-item.result in
      let tuple = w.in_ok-copied.field-0 in
      ap (λ v. map seen v.items) w.copies-is
      ∙ ap (map seen) w.in_ok-push.ensures.items
      ∙ map_push seen c.loop-span.copies.items (record { lo = old.lo; hi = old.hi; tuple = tuple })
      ∙ ap (λ row. map seen c.loop-span.copies.items ++ stretch old.lo old.hi row ∷ []) w.in_ok-copied.ensures
      ∙ sym (more c true (sym c.is_met.ensures ∙ w.if-is_met.true))
  | else-is_met w ↦
      ap (λ v. map seen v.items) w.copies-is
      ∙ sym (append_nil (map seen c.loop-span.copies.items))
      ∙ sym (more c false (sym c.is_met.ensures ∙ w.if-is_met.false))
]
