-- Cells put in the order of their deaths.
use Rattle.std.proofs.Common.{◌≡◌, ◌<◌, ◌≤◌, ◌+◌, ℕ, suc, false, Some, List, [], ◌∷◌, ◌++◌, Ordering, length, take, map, get_or, slice_get, refl, sym, ap, ◌∙◌, subst, inl, inr, arith}
use Rattle.std.proofs.lemmas.Bool.{cases_lt, false≢true, lt-ltb}
use Rattle.std.proofs.lemmas.List.{get_or-take, length-take-le, map-append}
use Rattle.std.proofs.lemmas.List.Elements.{All-map, recursion_from_All}
use Rattle.std.proofs.lemmas.List.FromFn.{fill_by_all, get_or-map-range_with_len, length-map-range_with_len, map-range_with_len_more}
use Rattle.std.proofs.lemmas.List.Sorted.{All-permutation, IsNonDecreasingBy-from_all_adjacent, IsPermutation-map}
use Rattle.std.proofs.lemmas.Option.{get_or_from_slice_get, slice_get-get_or}
use Rattle.std.proofs.lemmas.Simd.{map-map}
use Rattle.std.specs.List.{All, AllByRecursion, range_with_len}
use Rattle.std.specs.List.Sorted.{IsPermutation, IsSorted}
use Rattle.std.specs.Ordering.{is_lt, nat_cmp, ordering_then}
use Rattle.std.specs.declared.cmp.Ordering.TheVariants.{Less}
use Rattle.rs_tree.proofs.Lists.{take_next}
use Rattle.rs_cell_versions.specs.Dying.{AreDeaths, cell_of}
use Rattle.rs_cell_versions.specs.Version.{died_of}

-- the death of the cell with this place
abbrev pub death_at : List (List ℕ) → ℕ → ℕ × ℕ
death_at cells place = (died_of (get_or cells place []), place)

-- the deaths of the first cells
abbrev pub deaths_upto : List (List ℕ) → ℕ → List (ℕ × ℕ)
deaths_upto cells count = map (death_at cells) (range_with_len 0 count)

pub deaths_more : (cells : List (List ℕ)) (count : ℕ) (cell : List ℕ) (died : ℕ) → slice_get cells count ≡ Some cell → died ≡ died_of cell → deaths_upto cells (count + 1) ≡ deaths_upto cells count ++ (died, count) ∷ []
deaths_more cells count cell died there is =
    let same : died_of (get_or cells count []) ≡ died = ap died_of (get_or_from_slice_get cells count cell [] there) ∙ sym is in
    map-range_with_len_more (death_at cells) 0 count count (omega arith) ∙ ap (λ (n : ℕ). deaths_upto cells count ++ (n, count) ∷ []) same

-- pairs in order are so by what is first in them
not_less : (a b : ℕ) (o : Ordering) → is_lt (ordering_then (nat_cmp a b) o) ≡ false → b ≤ a
not_less a b o isnt = elim (cases_lt a b) [
  | inl less ↦
      let is : nat_cmp a b ≡ Less = rw (lt-ltb a b less) refl in
      absurd (false≢true (sym isnt ∙ ap (λ (t : Ordering). is_lt (ordering_then t o)) is))
  | inr most ↦ most
]

-- the order of pairs of numbers
abbrev pub pair_cmp : ℕ × ℕ → ℕ × ℕ → Ordering
pair_cmp one other = ordering_then (nat_cmp one.0 other.0) (nat_cmp one.1 other.1)

-- the death is that of the cell at its place
abbrev IsDeath : List (List ℕ) → ℕ × ℕ → Type 0
IsDeath cells death = (death.1 < length cells) × (death.0 ≡ died_of (cell_of cells death))

-- the deaths of all cells, sorted
pub deaths_sorted : (cells : List (List ℕ)) (count : ℕ) (deaths : List (ℕ × ℕ)) → count ≡ length cells → IsPermutation (deaths_upto cells count) deaths → IsSorted pair_cmp deaths → AreDeaths cells deaths
deaths_sorted cells count deaths counted moved sorted = record {
  each = All-permutation (IsDeath cells) (deaths_upto cells count) deaths moved each;
  moved = subst (λ (xs : List (List ℕ)). IsPermutation xs (map (cell_of cells) deaths)) (sym all) (IsPermutation-map (cell_of cells) (deaths_upto cells count) deaths moved);
  in_order = IsNonDecreasingBy-from_all_adjacent (λ death. death.0) deaths (λ k d h. not_less (get_or deaths (k + 1) d).0 (get_or deaths k d).0 (nat_cmp (get_or deaths (k + 1) d).1 (get_or deaths k d).1) (sorted k d (omega arith) h));
} where
  each : All (IsDeath cells) (deaths_upto cells count)
  each k d h =
      let inside : k < count = omega (arith, h, length-map-range_with_len (death_at cells) 0 count) in
      subst (IsDeath cells) (sym (get_or-map-range_with_len (death_at cells) 0 count k k d inside (omega arith))) (omega (arith, inside, counted), refl)

  all : cells ≡ map (cell_of cells) (deaths_upto cells count)
  all = fill_by_all (λ place. get_or cells place []) cells count [] (sym counted) (λ k h. refl) ∙ sym (map-map (cell_of cells) (death_at cells) (range_with_len 0 count))

-- one more of the cells of deaths
pub cells_more : (cells : List (List ℕ)) (deaths : List (ℕ × ℕ)) (index : ℕ) (cell : List ℕ) → index < length deaths → slice_get cells (get_or deaths index (0, 0)).1 ≡ Some cell
    → map (cell_of cells) (take (index + 1) deaths) ≡ map (cell_of cells) (take index deaths) ++ cell ∷ []
cells_more cells deaths index cell inside is =
    let death : ℕ × ℕ = get_or deaths index (0, 0) in
    let there : slice_get deaths index ≡ Some death = slice_get-get_or deaths index (0, 0) inside in
    let same : cell_of cells death ≡ cell = get_or_from_slice_get cells death.1 cell [] is in
    let next : suc index ≡ index + 1 = omega arith in
    ap (λ (n : ℕ). map (cell_of cells) (take n deaths)) (sym next) ∙ ap (map (cell_of cells)) (take_next deaths index death there) ∙ map-append (cell_of cells) (take index deaths) (death ∷ [])
    ∙ ap (λ (c : List ℕ). map (cell_of cells) (take index deaths) ++ c ∷ []) same

-- those before one died no later
pub died_before : (cells : List (List ℕ)) (deaths : List (ℕ × ℕ)) (index : ℕ) (cell : List ℕ) → AreDeaths cells deaths → index < length deaths → slice_get cells (get_or deaths index (0, 0)).1 ≡ Some cell
    → AllByRecursion (λ other. died_of other ≤ died_of cell) (map (cell_of cells) (take index deaths))
died_before cells deaths index cell are inside is =
    let death : ℕ × ℕ = get_or deaths index (0, 0) in
    let there : slice_get deaths index ≡ Some death = slice_get-get_or deaths index (0, 0) inside in
    let same : cell_of cells death ≡ cell = get_or_from_slice_get cells death.1 cell [] is in
    let died : death.0 ≡ died_of cell = (are.each index (0, 0) inside).1 ∙ ap died_of same in
    recursion_from_All (λ other. died_of other ≤ died_of cell) (map (cell_of cells) (take index deaths))
    (All-map (λ other. died_of other ≤ died_of cell) (cell_of cells) (take index deaths) (λ k d h.
    let before : k < index = omega (arith, h, length-take-le index deaths (omega arith)) in
    let at : get_or (take index deaths) k d ≡ get_or deaths k d = get_or-take index deaths k d before in
    let last : (get_or deaths index d).0 ≡ died_of cell = ap (λ (x : ℕ × ℕ). x.0) (get_or_from_slice_get deaths index death d there) ∙ died in
    subst (λ (x : ℕ × ℕ). died_of (cell_of cells x) ≤ died_of cell) (sym at) (omega (arith, (are.each k d (omega arith)).1, last, are.in_order k index d (omega arith) inside))))
