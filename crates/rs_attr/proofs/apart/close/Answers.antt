use Rattle.std.proofs.Common.{◌≡◌, ◌+◌, ◌<◌, ◌≤◌, ℕ, true, inl, inr, List, [], ◌∷◌, length, get_or, sym, ap, ◌∙◌, subst, arith}
use Rattle.std.proofs.lemmas.Bool.{leb-true}
use Rattle.std.proofs.lemmas.List.{get_or_default}
use Rattle.std.proofs.lemmas.List.Elements.{Contains-append_cases}
use Rattle.std.proofs.lemmas.List.Sorted.{IsPermutation-swap_remove, Contains-permutation}
use Rattle.std.specs.List.Sorted.{IsPermutation}
use Rattle.std.specs.Prelude.{nat_le}
use Rattle.rs_value.specs.declared.column.Kind.{Kind}
use Rattle.rs_facts.specs.Spans.{gap_of}
use Rattle.rs_attr.specs.declared.meant.RowStretch.{RowStretch}
use Rattle.rs_attr.proofs.OpenSpans.{alone}
use Rattle.rs_attr.proofs.apart.close.Goals as goal

past : (kind : Kind) (opened lent : List RowStretch) (place lo : ℕ) (one gone d : RowStretch) → place < length opened → lent ≡ opened
    → one ≡ gone → gone ≡ get_or opened place gone → true ≡ nat_le ((get_or lent place d).hi + gap_of kind) lo → one.hi + gap_of kind ≤ lo
past kind opened lent place lo one gone d inside same is value test =
    let at : get_or lent place d ≡ one = ap (λ l. get_or l place d) same ∙ get_or_default opened place d gone inside ∙ sym value ∙ sym is in
    subst (λ (s : RowStretch). s.hi + gap_of kind ≤ lo) at (leb-true ((get_or lent place d).hi + gap_of kind) lo (sym test))

pub loop-place-preserved-then-is_past : goal.loop-place-preserved-then-is_past
loop-place-preserved-then-is_past c =
    let inside : c.loop-place.place < length c.loop-place.opened.items = omega (arith, c.loop-place-test.true, c.len.ensures.value) in
    let is : IsPermutation c.loop-place.opened.items (c.swap_remove.result ∷ c.swap_remove.new.self.items) = subst (λ l. IsPermutation c.loop-place.opened.items (c.swap_remove.result ∷ l)) (sym c.swap_remove.ensures.items)
    (IsPermutation-swap_remove c.loop-place.opened.items c.loop-place.place c.swap_remove.result inside c.swap_remove.ensures.value) in
    λ one among. elim (c.loop-place.invariant one among) [
      | inl h ↦ elim (Contains-append_cases (c.swap_remove.result ∷ []) c.swap_remove.new.self.items one (Contains-permutation _ _ one is h)) [
        | inl first ↦ inr (past c.args.kind c.loop-place.opened.items c.deref.result.now c.loop-place.place c.args.lo one c.swap_remove.result _ inside c.deref.ensures.0 (alone c.swap_remove.result one first) c.swap_remove.ensures.value (sym c.if-is_past.true ∙ c.is_past.ensures))
        | inr rest ↦ inl rest
      ]
      | inr h ↦ inr h
    ]
