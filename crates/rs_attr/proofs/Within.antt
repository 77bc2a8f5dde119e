-- Cells that ascend, and those that have the bytes of a value.
use Rattle.std.proofs.Common.{◌≡◌, Bool, true, ℕ, List, [], ◌∷◌, refl, sym, ap, ◌∙◌, subst, inl, inr, arith}
use Rattle.std.proofs.lemmas.Bool.{false≢true}
use Rattle.std.proofs.lemmas.List.Sorted.{IsPermutation-sym, Contains-permutation, length_permutation}
use Rattle.std.specs.Cmp.Lexicographic.{slice_cmp}
use Rattle.std.specs.List.{Contains}
use Rattle.std.specs.List.Sorted.{IsPermutation}
use Rattle.std.specs.Ordering.{nat_cmp, is_eq}
use Rattle.std.specs.Prelude.{IsTrue}
use Rattle.rs_attr.specs.Entries.{Field, value_in}
use Rattle.rs_records.specs.Order.{is_below, Ascends}
use Rattle.rs_records.proofs.Orders.{is_below-self, is_below-cases}
use Rattle.rs_tree.proofs.Below.{below_one_way}
use Rattle.rs_cell_versions.proofs.Among.{all_at, first_or_rest}
use Rattle.rs_cell_versions.proofs.Permutations.{IsPermutation-rest}

-- the first of two cells isn't among cells that begin with the second and ascend
first_isnt : (x y : List ℕ) (ys : List (List ℕ)) → Ascends (y ∷ ys) → is_below x y ≡ true → Contains (y ∷ ys) x → ⊥
first_isnt x y ys up less has = elim (first_or_rest x y ys has) [
  | inl same ↦ false≢true (sym (is_below-self x) ∙ subst (λ (c : List ℕ). is_below x c ≡ true) same less)
  | inr rest ↦ false≢true (sym (below_one_way x y less) ∙ all_at (λ other. IsTrue (is_below y other)) ys x up.0 rest)
]

-- cells that ascend are in one order only
pub ascends_once : (xs ys : List (List ℕ)) → Ascends xs → Ascends ys → IsPermutation xs ys → xs ≡ ys
ascends_once [] [] up rise same = refl
ascends_once [] (y ∷ ys) up rise same = absurd (omega (arith, length_permutation [] (y ∷ ys) same))
ascends_once (x ∷ xs) [] up rise same = absurd (omega (arith, length_permutation (x ∷ xs) [] same))
ascends_once (x ∷ xs) (y ∷ ys) up rise same = elim (is_below-cases x y) [
  | inl less ↦ absurd (first_isnt x y ys rise less (Contains-permutation (x ∷ xs) (y ∷ ys) x same (0, omega arith, refl)))
  | inr (inr more) ↦ absurd (first_isnt y x xs up more (Contains-permutation (y ∷ ys) (x ∷ xs) y (IsPermutation-sym (x ∷ xs) (y ∷ ys) same) (0, omega arith, refl)))
  | inr (inl level) ↦
      let rest : IsPermutation xs ys = IsPermutation-rest x xs ys (subst (λ (c : List ℕ). IsPermutation (x ∷ xs) (c ∷ ys)) (sym level) same) in
      ap (λ (c : List ℕ). c ∷ xs) level ∙ ap (λ (cs : List (List ℕ)). y ∷ cs) (ascends_once xs ys up.1 rise.1 rest)
]

-- the cell has these bytes in the field
abbrev pub has : Field → List ℕ → List ℕ → Bool
has field bytes cell = is_eq (slice_cmp nat_cmp (value_in field cell) bytes)
