-- Images of cells in a tree of their own: what is done to the cells is done to the images.
use Rattle.std.proofs.Common.{◌≡◌, ℕ, suc, List, [], ◌∷◌, length, map, sym, ap, subst, inl, inr, arith}
use Rattle.std.proofs.lemmas.List.Sorted.{Contains-permutation, IsPermutation-cons, IsPermutation-map, IsPermutation-middle, IsPermutation-sym, IsPermutation-trans}
use Rattle.std.specs.List.{AllByRecursion, Contains}
use Rattle.std.specs.List.Sorted.{IsPermutation}
use Rattle.rs_records.specs.Order.{Ascends}
use Rattle.rs_tree.specs.Cells.{cells_above, cells_below, with_cell, without_cell}
use Rattle.rs_cell_versions.proofs.Among.{among, first_or_rest, with_present, without_absent}
use Rattle.rs_cell_versions.proofs.Permutations.{IsPermutation-rest}

-- the image of a cell is among those of the cells
there_mapped : (image : List ℕ → List ℕ) (cs : List (List ℕ)) (cell : List ℕ) → Contains cs cell → Contains (map image cs) (image cell)
there_mapped image [] cell has = absurd (omega (arith, has.1))
there_mapped image (c ∷ cs) cell has = elim (first_or_rest cell c cs has) [
  | inl same ↦ (0, omega arith, ap image same)
  | inr rest ↦ let more = there_mapped image cs cell rest in (suc more.0, omega (arith, more.1), more.2)
]

-- the cell first, and then the others
came_first : (cell : List ℕ) (cs : List (List ℕ)) → IsPermutation (with_cell cell cs) (cell ∷ without_cell cell cs)
came_first cell cs = IsPermutation-middle (cells_below cell cs) cell (cells_above cell cs)

-- cells of one width are told apart by their images
pub record TellsApart (image : List ℕ → List ℕ) (width : ℕ) : Type 0 where
  pub each : (one other : List ℕ) → length one ≡ width → length other ≡ width → image one ≡ image other → one ≡ other

module _ (image : List ℕ → List ℕ) (width : ℕ) (apart : TellsApart image width) (cell : List ℕ) (long : length cell ≡ width) where
  there_before : (cs : List (List ℕ)) → AllByRecursion (λ c. length c ≡ width) cs → Contains (map image cs) (image cell) → Contains cs cell
  there_before [] wide has = absurd (omega (arith, has.1))
  there_before (c ∷ cs) wide has = elim (first_or_rest (image cell) (image c) (map image cs) has) [
    | inl same ↦ (0, omega arith, apart.each c cell wide.0 long same)
    | inr rest ↦ let more = there_before cs wide.1 rest in (suc more.0, omega (arith, more.1), more.2)
  ]

  module _ (cells entries : List (List ℕ)) (wide : AllByRecursion (λ c. length c ≡ width) cells) (up : Ascends cells) (rise : Ascends entries)
      (are : IsPermutation entries (map image cells)) where
    entry_there : Contains cells cell → Contains entries (image cell)
    entry_there has =
        Contains-permutation (map image cells) entries (image cell) (IsPermutation-sym entries (map image cells) are) (there_mapped image cells cell has)

    no_entry : (Contains cells cell → ⊥) → Contains entries (image cell) → ⊥
    no_entry none has = none (there_before cells wide (Contains-permutation entries (map image cells) (image cell) are has))

    -- what is there already stays
    entered_there : Contains cells cell → IsPermutation (with_cell (image cell) entries) (map image (with_cell cell cells))
    entered_there has =
        subst (λ (xs : List (List ℕ)). IsPermutation xs (map image (with_cell cell cells))) (sym (with_present (image cell) entries rise (entry_there has)))
        (subst (λ (xs : List (List ℕ)). IsPermutation entries (map image xs)) (sym (with_present cell cells up has)) are)

    entered_new : (Contains cells cell → ⊥) → IsPermutation (with_cell (image cell) entries) (map image (with_cell cell cells))
    entered_new none =
        let first : IsPermutation (with_cell (image cell) entries) (image cell ∷ entries) =
        subst (λ (xs : List (List ℕ)). IsPermutation (with_cell (image cell) entries) (image cell ∷ xs)) (without_absent (image cell) entries rise (no_entry none)) (came_first (image cell) entries) in
        let cell_first : IsPermutation (with_cell cell cells) (cell ∷ cells) =
        subst (λ (xs : List (List ℕ)). IsPermutation (with_cell cell cells) (cell ∷ xs)) (without_absent cell cells up none) (came_first cell cells) in
        IsPermutation-trans (with_cell (image cell) entries) (image cell ∷ entries) (map image (with_cell cell cells)) first
        (IsPermutation-trans (image cell ∷ entries) (image cell ∷ map image cells) (map image (with_cell cell cells)) (IsPermutation-cons (image cell) entries (map image cells) are)
        (IsPermutation-sym (map image (with_cell cell cells)) (image cell ∷ map image cells) (IsPermutation-map image (with_cell cell cells) (cell ∷ cells) cell_first)))

    pub entered : IsPermutation (with_cell (image cell) entries) (map image (with_cell cell cells))
    entered = elim (among cell cells) [ inl has ↦ entered_there has | inr none ↦ entered_new none ]

    left_there : Contains cells cell → IsPermutation (without_cell (image cell) entries) (map image (without_cell cell cells))
    left_there has =
        let others : List (List ℕ) = without_cell (image cell) entries in
        let rest : List (List ℕ) = without_cell cell cells in
        let first : IsPermutation entries (image cell ∷ others) =
        subst (λ (xs : List (List ℕ)). IsPermutation xs (image cell ∷ others)) (with_present (image cell) entries rise (entry_there has)) (came_first (image cell) entries) in
        let cell_first : IsPermutation cells (cell ∷ rest) =
        subst (λ (xs : List (List ℕ)). IsPermutation xs (cell ∷ rest)) (with_present cell cells up has) (came_first cell cells) in
        IsPermutation-rest (image cell) others (map image rest)
        (IsPermutation-trans (image cell ∷ others) entries (image cell ∷ map image rest) (IsPermutation-sym entries (image cell ∷ others) first)
        (IsPermutation-trans entries (map image cells) (image cell ∷ map image rest) are (IsPermutation-map image cells (cell ∷ rest) cell_first)))

    left_none : (Contains cells cell → ⊥) → IsPermutation (without_cell (image cell) entries) (map image (without_cell cell cells))
    left_none none =
        subst (λ (xs : List (List ℕ)). IsPermutation xs (map image (without_cell cell cells))) (sym (without_absent (image cell) entries rise (no_entry none)))
        (subst (λ (xs : List (List ℕ)). IsPermutation entries (map image xs)) (sym (without_absent cell cells up none)) are)

    pub left : IsPermutation (without_cell (image cell) entries) (map image (without_cell cell cells))
    left = elim (among cell cells) [ inl has ↦ left_there has | inr none ↦ left_none none ]
