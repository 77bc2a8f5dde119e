-- A cell among others that ascend, or apart from them, and what tests keep of them with it and without it.
use Rattle.std.proofs.Common.{◌≡◌, ◌⊎◌, ◌+◌, ℕ, zero, suc, Bool, true, false, cond, List, [], ◌∷◌, ◌++◌, filter, refl, sym, ap, ◌∙◌, subst, inl, inr, arith}
use Rattle.std.proofs.lemmas.Bool.{false≢true}
use Rattle.std.proofs.lemmas.List.Elements.{filter-append}
use Rattle.std.proofs.lemmas.List.Sorted.{IsPermutation-middle}
use Rattle.std.proofs.lemmas.List.Sums.{sum_by-append, sum_by-cons}
use Rattle.std.specs.List.{AllByRecursion, Contains, count_by}
use Rattle.std.specs.List.Sorted.{IsPermutation}
use Rattle.rs_records.specs.Order.{is_below, Ascends}
use Rattle.rs_records.proofs.Orders.{is_below-self, is_below-cases}
use Rattle.rs_tree.specs.Cells.{cells_above, cells_below, with_cell, without_cell}
use Rattle.rs_tree.proofs.Below.{below_one_way}
use Rattle.rs_tree_edit.proofs.Between.{AllAbove, above_all, all_above_trans, below_none}

-- what is above the cell isn't it
not_above_itself : (cell : List ℕ) (cs : List (List ℕ)) → AllAbove cell cs → Contains cs cell → ⊥
not_above_itself cell [] all has = omega (arith, has.1)
not_above_itself cell (c ∷ cs) all (zero, inside, is) = false≢true (sym (is_below-self cell) ∙ subst (λ x. is_below cell x ≡ true) is all.0)
not_above_itself cell (c ∷ cs) all (suc k, inside, is) = not_above_itself cell cs all.1 (k, omega arith, is)

-- the cell is the first or among the rest
pub first_or_rest : (cell c : List ℕ) (cs : List (List ℕ)) → Contains (c ∷ cs) cell → (c ≡ cell) ⊎ Contains cs cell
first_or_rest cell c cs (zero, inside, is) = inl is
first_or_rest cell c cs (suc k, inside, is) = inr (k, omega arith, is)

-- where it is one of them, they are what is below it, it, and what is above it
pub with_present : (cell : List ℕ) (cs : List (List ℕ)) → Ascends cs → Contains cs cell → with_cell cell cs ≡ cs
with_present cell [] up has = absurd (omega (arith, has.1))
with_present cell (c ∷ cs) up has = elim (is_below-cases c cell) [
  | inl less ↦
      let isnt : is_below cell c ≡ false = below_one_way c cell less in
      let rest : Contains cs cell = elim (first_or_rest cell c cs has) [
        | inl same ↦ absurd (false≢true (sym (is_below-self cell) ∙ subst (λ x. is_below x cell ≡ true) same less))
        | inr rest ↦ rest
      ] in
      rw (less, isnt) (ap (λ xs. c ∷ xs) (with_present cell cs up.1 rest))
  | inr (inl same) ↦
      let one : is_below c cell ≡ false = ap (is_below c) (sym same) ∙ is_below-self c in
      let other : is_below cell c ≡ false = ap (λ x. is_below x c) (sym same) ∙ is_below-self c in
      let all : AllAbove cell cs = subst (λ x. AllAbove x cs) same up.0 in
      rw (one, other) (ap (λ xs. xs ++ cell ∷ cells_above cell cs) (below_none cell cs all) ∙ ap (λ xs. cell ∷ xs) (above_all cell cs all) ∙ ap (λ x. x ∷ cs) (sym same))
  | inr (inr more) ↦ absurd (not_above_itself cell (c ∷ cs) (more, all_above_trans cell c cs more up.0) has)
]

-- where it isn't, they are what is below it and what is above it
pub without_absent : (cell : List ℕ) (cs : List (List ℕ)) → Ascends cs → (Contains cs cell → ⊥) → without_cell cell cs ≡ cs
without_absent cell [] up none = refl
without_absent cell (c ∷ cs) up none = elim (is_below-cases c cell) [
  | inl less ↦
      let isnt : is_below cell c ≡ false = below_one_way c cell less in
      rw (less, isnt) (ap (λ xs. c ∷ xs) (without_absent cell cs up.1 (λ has. none (suc has.0, omega (arith, has.1), has.2))))
  | inr (inl same) ↦ absurd (none (0, omega arith, same))
  | inr (inr more) ↦
      let all : AllAbove cell (c ∷ cs) = (more, all_above_trans cell c cs more up.0) in
      ap (λ xs. xs ++ cells_above cell (c ∷ cs)) (below_none cell (c ∷ cs) all) ∙ above_all cell (c ∷ cs) all
]

-- it is one of them or not
pub among : (cell : List ℕ) (cs : List (List ℕ)) → Contains cs cell ⊎ (Contains cs cell → ⊥)
among cell [] = inr (λ has. omega (arith, has.1))
among cell (c ∷ cs) = elim (is_below-cases c cell) [
  | inl less ↦ later (λ same. false≢true (sym (is_below-self cell) ∙ subst (λ x. is_below x cell ≡ true) same less)) (among cell cs)
  | inr (inl same) ↦ inl (0, omega arith, same)
  | inr (inr more) ↦ later (λ same. false≢true (sym (is_below-self cell) ∙ subst (λ x. is_below cell x ≡ true) same more)) (among cell cs)
] where
  later : (c ≡ cell → ⊥) → Contains cs cell ⊎ (Contains cs cell → ⊥) → Contains (c ∷ cs) cell ⊎ (Contains (c ∷ cs) cell → ⊥)
  later other (inl has) = inl (suc has.0, omega (arith, has.1), has.2)
  later other (inr none) = inr (λ has. elim (first_or_rest cell c cs has) [ inl same ↦ other same | inr rest ↦ none rest ])

-- the cell is counted among the others where the test accepts it
pub count-with : (test : List ℕ → Bool) (cell : List ℕ) (cs : List (List ℕ)) → count_by test (with_cell cell cs) ≡ cond (test cell) 1 0 + count_by test (without_cell cell cs)
count-with test cell cs =
    let weigh : List ℕ → ℕ = λ x. cond (test x) 1 0 in
    omega (arith, sum_by-append weigh (cells_below cell cs) (cell ∷ cells_above cell cs), sum_by-cons weigh cell (cells_above cell cs), sum_by-append weigh (cells_below cell cs) (cells_above cell cs))

-- and is kept where the test accepts it
pub filter-with_yes : (test : List ℕ → Bool) (cell : List ℕ) (cs : List (List ℕ)) → test cell ≡ true → IsPermutation (filter test (with_cell cell cs)) (cell ∷ filter test (without_cell cell cs))
filter-with_yes test cell cs is =
    let below : List (List ℕ) = filter test (cells_below cell cs) in
    let above : List (List ℕ) = filter test (cells_above cell cs) in
    let kept : filter test (with_cell cell cs) ≡ below ++ cell ∷ above =
    filter-append test (cells_below cell cs) (cell ∷ cells_above cell cs) ∙ ap (λ b. below ++ cond b (cell ∷ above) above) is in
    subst (λ xs. IsPermutation xs (cell ∷ filter test (without_cell cell cs))) (sym kept)
    (subst (λ xs. IsPermutation (below ++ cell ∷ above) (cell ∷ xs)) (sym (filter-append test (cells_below cell cs) (cells_above cell cs))) (IsPermutation-middle below cell above))

pub filter-with_no : (test : List ℕ → Bool) (cell : List ℕ) (cs : List (List ℕ)) → test cell ≡ false → filter test (with_cell cell cs) ≡ filter test (without_cell cell cs)
filter-with_no test cell cs isnt =
    let below : List (List ℕ) = filter test (cells_below cell cs) in
    let above : List (List ℕ) = filter test (cells_above cell cs) in
    filter-append test (cells_below cell cs) (cell ∷ cells_above cell cs) ∙ ap (λ b. below ++ cond b (cell ∷ above) above) isnt
    ∙ sym (filter-append test (cells_below cell cs) (cells_above cell cs))

-- what a filter has is in the list, and passes
pub filtered : (test : List ℕ → Bool) (cs : List (List ℕ)) (cell : List ℕ) → Contains (filter test cs) cell → (test cell ≡ true) × Contains cs cell
filtered test [] cell has = absurd (omega (arith, has.1))
filtered test (c ∷ cs) cell has = by_test (test c) refl (λ rest. filtered test cs cell rest) where
  more : (test cell ≡ true) × Contains cs cell → (test cell ≡ true) × Contains (c ∷ cs) cell
  more rest = (rest.0, (suc rest.1.0, omega (arith, rest.1.1), rest.1.2))

  by_test : (b : Bool) → test c ≡ b → (Contains (filter test cs) cell → (test cell ≡ true) × Contains cs cell) → (test cell ≡ true) × Contains (c ∷ cs) cell
  by_test false e later =
      more (later (subst (λ b. Contains (cond b (c ∷ filter test cs) (filter test cs)) cell) e has))
  by_test true e later =
      elim (first_or_rest cell c (filter test cs) (subst (λ b. Contains (cond b (c ∷ filter test cs) (filter test cs)) cell) e has)) [
        | inl same ↦ (ap test (sym same) ∙ e, (0, omega arith, same))
        | inr rest ↦ more (later rest)
      ]

-- what holds of each holds of one of them
pub all_at : (P : List ℕ → Type 0) (cs : List (List ℕ)) (cell : List ℕ) → AllByRecursion P cs → Contains cs cell → P cell
all_at P [] cell all has = absurd (omega (arith, has.1))
all_at P (c ∷ cs) cell all has = elim (first_or_rest cell c cs has) [ inl same ↦ subst P same all.0 | inr rest ↦ all_at P cs cell all.1 rest ]

-- tests that agree about each keep the same
pub filter_same : (p q : List ℕ → Bool) (cs : List (List ℕ)) → ((c : List ℕ) → Contains cs c → p c ≡ q c) → filter p cs ≡ filter q cs
filter_same p q [] same = refl
filter_same p q (c ∷ cs) same =
    ap (λ b. cond b (c ∷ filter p cs) (filter p cs)) (same c (0, omega arith, refl))
    ∙ ap (λ xs. cond (q c) (c ∷ xs) xs) (filter_same p q cs (λ d has. same d (suc has.0, omega (arith, has.1), has.2)))
