-- Kept spans lie apart, in whatever order they stand.
use Rattle.std.proofs.Common.{◌≡◌, ℕ, zero, suc, ◌<◌, ◌≢◌, inl, inr, List, [], ◌∷◌, length, get_or, refl, sym, ap, ◌∙◌, subst, arith}
use Rattle.std.proofs.lemmas.Bool.{cases_eq}
use Rattle.std.proofs.lemmas.List.Edits.{swapped_from_swap}
use Rattle.std.proofs.lemmas.List.Elements.{Contains-get_or}
use Rattle.std.proofs.lemmas.List.Sorted.{IsPermutation-keeps, length_permutation, IsPermutation-swap}
use Rattle.std.specs.List.{swap}
use Rattle.std.specs.List.Sorted.{IsPermutation}
use Rattle.rs_value.specs.declared.column.Kind.{Kind}
use Rattle.rs_facts.specs.Runs.{Stretch}
use Rattle.rs_facts.specs.Spans.{Precedes, AreKept}
use Rattle.rs_facts.proofs.Rows.{row_cmp-less_apart}
use Rattle.rs_facts.proofs.RunLaws.{IsApart, LieApart, each-at}

-- ---- a relation between the elements at any two places, in another order

module _ {X : Type 0} (R : X → X → Type 0) where
  abbrev pub AnyTwo : List X → Type 0
  AnyTwo xs = (i j : ℕ) (d : X) → i < length xs → j < length xs → i ≢ j → R (get_or xs i d) (get_or xs j d)

  swap_step : (xs : List X) (a b : ℕ) → a < length xs → b < length xs → AnyTwo xs → AnyTwo (swap xs a b)
  swap_step xs a b in_a in_b two i j d in_i in_j apart =
      let moved = swapped_from_swap xs (swap xs a b) a b d in_a in_b refl in
      let long : length (swap xs a b) ≡ length xs = length_permutation xs (swap xs a b) (IsPermutation-swap xs (swap xs a b) a b in_a in_b refl) in
      let at : (m n k l : ℕ) → get_or (swap xs a b) m d ≡ get_or xs k d → get_or (swap xs a b) n d ≡ get_or xs l d → R (get_or xs k d) (get_or xs l d) → R (get_or (swap xs a b) m d) (get_or (swap xs a b) n d) =
      λ m n k l e f h. subst (λ x. R x (get_or (swap xs a b) n d)) (sym e) (subst (λ y. R (get_or xs k d) y) (sym f) h) in
      elim (cases_eq i a) [
        | inl ia ↦
            let ei : get_or (swap xs a b) i d ≡ get_or xs b d = ap (λ m. get_or (swap xs a b) m d) ia ∙ moved.0 in
            elim (cases_eq j a) [
              | inl ja ↦ absurd (apart (ia ∙ sym ja))
              | inr not_ja ↦ elim (cases_eq j b) [
                | inl jb ↦
                    let ej : get_or (swap xs a b) j d ≡ get_or xs a d = ap (λ m. get_or (swap xs a b) m d) jb ∙ moved.1 in
                    at i j b a ei ej (two b a d in_b in_a (λ e. apart (ia ∙ sym e ∙ sym jb)))
                | inr not_jb ↦ at i j b j ei (moved.2 j not_ja not_jb) (two b j d in_b (omega arith) (λ e. not_jb (sym e)))
              ]
            ]
        | inr not_ia ↦ elim (cases_eq i b) [
          | inl ib ↦
              let ei : get_or (swap xs a b) i d ≡ get_or xs a d = ap (λ m. get_or (swap xs a b) m d) ib ∙ moved.1 in
              elim (cases_eq j a) [
                | inl ja ↦
                    let ej : get_or (swap xs a b) j d ≡ get_or xs b d = ap (λ m. get_or (swap xs a b) m d) ja ∙ moved.0 in
                    at i j a b ei ej (two a b d in_a in_b (λ e. apart (ib ∙ sym e ∙ sym ja)))
                | inr not_ja ↦ elim (cases_eq j b) [
                  | inl jb ↦ absurd (apart (ib ∙ sym jb))
                  | inr not_jb ↦ at i j a j ei (moved.2 j not_ja not_jb) (two a j d in_a (omega arith) (λ e. not_ja (sym e)))
                ]
              ]
          | inr not_ib ↦ elim (cases_eq j a) [
            | inl ja ↦
                let ej : get_or (swap xs a b) j d ≡ get_or xs b d = ap (λ m. get_or (swap xs a b) m d) ja ∙ moved.0 in
                at i j i b (moved.2 i not_ia not_ib) ej (two i b d (omega arith) in_b not_ib)
            | inr not_ja ↦ elim (cases_eq j b) [
              | inl jb ↦
                  let ej : get_or (swap xs a b) j d ≡ get_or xs a d = ap (λ m. get_or (swap xs a b) m d) jb ∙ moved.1 in
                  at i j i a (moved.2 i not_ia not_ib) ej (two i a d (omega arith) in_a not_ia)
              | inr not_jb ↦ at i j i j (moved.2 i not_ia not_ib) (moved.2 j not_ja not_jb) (two i j d (omega arith) (omega arith) apart)
            ]
          ]
        ]
      ]

  pub two-permutation : (xs ys : List X) → IsPermutation xs ys → AnyTwo xs → AnyTwo ys
  two-permutation xs ys h two = IsPermutation-keeps xs AnyTwo two swap_step ys h

-- ---- spans

pub apart-permutation : (kind : Kind) (xs ys : List Stretch) → IsPermutation xs ys → LieApart kind xs → LieApart kind ys
apart-permutation kind xs ys h apart = two-permutation (IsApart kind) xs ys h apart

apart-back : (kind : Kind) (a b : Stretch) → IsApart kind a b → IsApart kind b a
apart-back kind a b h same = elim (h (sym same)) [ inl x ↦ inr x | inr y ↦ inl y ]

pub precedes-apart : (kind : Kind) (a b : Stretch) → Precedes kind a b → IsApart kind a b
precedes-apart kind a b (inl less) same = absurd (row_cmp-less_apart a.row b.row less same)
precedes-apart kind a b (inr gap) same = inl gap.1

kept_apart : (kind : Kind) (spans : List Stretch) → AreKept kind spans → (i j : ℕ) (d : Stretch) → i < length spans → j < length spans → i ≢ j → IsApart kind (get_or spans i d) (get_or spans j d)
kept_apart kind [] h i j d a b apart = absurd (omega arith)
kept_apart kind (span ∷ spans) h zero zero d a b apart = absurd (apart refl)
kept_apart kind (span ∷ spans) h zero (suc j) d a b apart = precedes-apart kind span (get_or spans j d) (each-at (Precedes kind span) spans (get_or spans j d) h.1 (Contains-get_or spans j d (omega arith)))
kept_apart kind (span ∷ spans) h (suc i) zero d a b apart = apart-back kind span (get_or spans i d) (precedes-apart kind span (get_or spans i d) (each-at (Precedes kind span) spans (get_or spans i d) h.1 (Contains-get_or spans i d (omega arith))))
kept_apart kind (span ∷ spans) h (suc i) (suc j) d a b apart = kept_apart kind spans h.2 i j d (omega arith) (omega arith) (λ e. apart (ap suc e))

pub kept-apart : (kind : Kind) (spans : List Stretch) → AreKept kind spans → LieApart kind spans
kept-apart kind spans h i j d a b apart = kept_apart kind spans h i j d a b apart
