use Rattle.std.proofs.Common.{◌≡◌, ◌+◌, ◌<◌, ◌≤◌, ℕ, false, inl, inr, List, [], ◌∷◌, length, get_or, Contains, sym, ap, ◌∙◌, subst, rules, arith}
use Rattle.std.proofs.lemmas.Bool.{ltb-false}
use Rattle.std.proofs.lemmas.List.{get_or_default}
use Rattle.std.proofs.lemmas.List.Elements.{Contains-get_or, Contains-append_cases, Contains-append_right}
use Rattle.std.specs.List.Sorted.{IsPermutation}
use Rattle.std.specs.Prelude.{nat_lt}
use Rattle.std.proofs.lemmas.List.Sorted.{IsPermutation-swap_remove, IsPermutation-sym, Contains-permutation}
use Rattle.rs_value.specs.declared.column.Kind.{Kind}
use Rattle.rs_facts.specs.declared.fact.Span.{Span}
use Rattle.rs_facts.specs.Spans.{gap_of}
use Rattle.rs_coalesce.proofs.OpenRuns.{alone}
use Rattle.rs_coalesce.proofs.turn.close.Goals as goal

member : (lent opened first : List ℕ) (place n : ℕ) → lent ≡ opened → place < length opened → ((i : ℕ) → Contains opened i → Contains first i) → ((i : ℕ) → Contains first i → i < n) → get_or lent place 0 < n
member lent opened first place n is inside kept within = within _ (kept _ (subst (λ l. Contains opened (get_or l place 0)) (sym is) (Contains-get_or opened place 0 inside)))

shut : (kind : Kind) (spans : List Span) (i at lo : ℕ) (e d : Span) → at < length spans → i ≡ at → nat_lt lo ((get_or spans at e).hi + gap_of kind) ≡ false → (get_or spans i d).hi + gap_of kind ≤ lo
shut kind spans i at lo e d inside same far =
    let last = ltb-false lo ((get_or spans at e).hi + gap_of kind) far in
    let one : (get_or spans at e).hi ≡ (get_or spans i d).hi = ap (λ (s : Span). s.hi) (get_or_default spans at e d inside) ∙ ap (λ n. (get_or spans n d).hi) (sym same) in
    omega (arith, last, one)

pub loop-place-init : goal.loop-place-init
loop-place-init c = record { kept = λ i among. among; closed = λ i among. inl among }

pub offset_bounds-spans-deref : goal.offset_bounds-spans-deref
offset_bounds-spans-deref c = let within : get_or c.deref.result.now c.loop-place.place 0 < length c.args.spans.now =
    member c.deref.result.now c.loop-place.opened.items c.args.opened.now.items c.loop-place.place (length c.args.spans.now) (c.deref.ensures.0) (omega (arith, c.loop-place-test.true, c.len.ensures.value)) c.loop-place.invariant.kept c.requires in search rules

pub bounds-spans-deref : goal.bounds-spans-deref
bounds-spans-deref c = member c.deref.result.now c.loop-place.opened.items c.args.opened.now.items c.loop-place.place (length c.args.spans.now) (c.deref.ensures.0) (omega (arith, c.loop-place-test.true, c.len.ensures.value)) c.loop-place.invariant.kept c.requires

pub bounds-spans-deref-in-loop-place : goal.bounds-spans-deref-in-loop-place
bounds-spans-deref-in-loop-place c = member c.deref.result.now c.loop-place.opened.items c.args.opened.now.items c.loop-place.place (length c.args.spans.now) (c.deref.ensures.0) (omega (arith, c.loop-place-test.true, c.len.ensures.value)) c.loop-place.invariant.kept c.requires

pub loop-place-preserved : goal.loop-place-preserved
loop-place-preserved c =
    let is : IsPermutation c.loop-place.opened.items (c.swap_remove.result ∷ c.swap_remove.new.self.items) = subst (λ l. IsPermutation c.loop-place.opened.items (c.swap_remove.result ∷ l)) (sym c.swap_remove.ensures.items)
    (IsPermutation-swap_remove c.loop-place.opened.items c.loop-place.place c.swap_remove.result (omega (arith, c.loop-place-test.true, c.len.ensures.value)) c.swap_remove.ensures.value) in
    record {
      kept = λ i among. c.loop-place.invariant.kept i (Contains-permutation _ _ i (IsPermutation-sym _ _ is) (Contains-append_right (c.swap_remove.result ∷ []) c.swap_remove.new.self.items i among));
      closed = λ i among. elim (c.loop-place.invariant.closed i among) [
        | inl h ↦ elim (Contains-append_cases (c.swap_remove.result ∷ []) c.swap_remove.new.self.items i (Contains-permutation _ _ i is h)) [
          | inl one ↦ inr (λ d. shut c.args.kind c.args.spans.now i (get_or c.deref.result.now c.loop-place.place 0) c.args.lo c.index-spans-deref.result d
              (member c.deref.result.now c.loop-place.opened.items c.args.opened.now.items c.loop-place.place (length c.args.spans.now) c.deref.ensures.0 (omega (arith, c.loop-place-test.true, c.len.ensures.value)) c.loop-place.invariant.kept c.requires)
              (alone c.swap_remove.result i one ∙ c.swap_remove.ensures.value ∙ get_or_default c.loop-place.opened.items c.loop-place.place c.swap_remove.result 0 (omega (arith, c.loop-place-test.true, c.len.ensures.value)) ∙ ap (λ l. get_or l c.loop-place.place 0) (sym c.deref.ensures.0))
              (sym c.reaches.ensures ∙ c.if-reaches.false))
          | inr rest ↦ inl rest
        ]
        | inr h ↦ inr h
      ];
    }
