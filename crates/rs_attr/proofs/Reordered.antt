-- Cells in the order of what goes with their places.
use Rattle.std.proofs.Common.{◌≡◌, ◌+◌, ℕ, suc, Bool, true, false, Some, List, [], ◌∷◌, ◌++◌, IsTrue, map, take, slice_get, slice_index_or, refl, sym, ap, ◌∙◌, arith}
use Rattle.std.proofs.lemmas.Bool.{false≢true}
use Rattle.std.proofs.lemmas.List.{map-append}
use Rattle.std.proofs.lemmas.Option.{get_or_from_slice_get}
use Rattle.std.specs.List.{AllByRecursion, Contains}
use Rattle.std.specs.List.Sorted.{IsPermutation}
use Rattle.std.proofs.lemmas.List.Sorted.{All-permutation, IsPermutation-sym}
use Rattle.std.proofs.lemmas.List.Elements.{All-from_recursion, recursion_from_All}
use Rattle.rs_attr.specs.Entries.{Field, entry_of, index_form}
use Rattle.rs_attr.specs.Opening.{HasEntries, LacksEntries}
use Rattle.rs_pages.specs.PageMap.{PageMap}
use Rattle.rs_tree.specs.Tree.{IsTree}
use Rattle.rs_tree.proofs.Lists.{take_next}

-- the cell at the place
abbrev pub cell_at : {V : Type 0} → List (List ℕ) → V × ℕ → List ℕ
cell_at cells value = slice_index_or cells value.1 []

pub places_more : {V : Type 0} (cells : List (List ℕ)) (places : List (V × ℕ)) (place : ℕ) (cell : List ℕ) (value : V) → slice_get cells place ≡ Some cell → map (cell_at cells) places ≡ take place cells
    → map (cell_at cells) (places ++ (value, place) ∷ []) ≡ take (place + 1) cells
places_more cells places place cell value there so =
    let same : cell_at cells (value, place) ≡ cell = get_or_from_slice_get cells place cell [] there in
    let next : suc place ≡ place + 1 = omega arith in
    map-append (cell_at cells) places ((value, place) ∷ []) ∙ ap (λ (l : List (List ℕ)). l ++ cell_at cells (value, place) ∷ []) so ∙ ap (λ (c : List ℕ). take place cells ++ c ∷ []) same
    ∙ sym (take_next cells place cell there) ∙ ap (λ (n : ℕ). take n cells) next

pub ordered_more : {V : Type 0} (cells : List (List ℕ)) (places : List (V × ℕ)) (index : ℕ) (value : V × ℕ) (cell : List ℕ) → slice_get places index ≡ Some value → slice_get cells value.1 ≡ Some cell
    → map (cell_at cells) (take (index + 1) places) ≡ map (cell_at cells) (take index places) ++ cell ∷ []
ordered_more cells places index value cell there is =
    let same : cell_at cells value ≡ cell = get_or_from_slice_get cells value.1 cell [] is in
    let next : suc index ≡ index + 1 = omega arith in
    ap (λ (n : ℕ). map (cell_at cells) (take n places)) (sym next) ∙ ap (map (cell_at cells)) (take_next places index value there) ∙ map-append (cell_at cells) (take index places) (value ∷ [])
    ∙ ap (λ (c : List ℕ). map (cell_at cells) (take index places) ++ c ∷ []) same

-- one more image
pub images_more : {V : Type 0} (f : List ℕ → List ℕ) (cells : List (List ℕ)) (places : List (V × ℕ)) (index : ℕ) (value : V × ℕ) (cell : List ℕ) → slice_get places index ≡ Some value
    → slice_get cells value.1 ≡ Some cell → map f (map (cell_at cells) (take (index + 1) places)) ≡ map f (map (cell_at cells) (take index places)) ++ f cell ∷ []
images_more f cells places index value cell there is =
    ap (map f) (ordered_more cells places index value cell there is) ∙ map-append f (map (cell_at cells) (take index places)) (cell ∷ [])

-- ---- the entries in another order are the same

all_moved : (P : List ℕ → Type 0) (xs ys : List (List ℕ)) → IsPermutation xs ys → AllByRecursion P xs → AllByRecursion P ys
all_moved P xs ys moved all = recursion_from_All P ys (All-permutation P xs ys moved (All-from_recursion P xs all))

all_mapped : (P : List ℕ → Type 0) (f : List ℕ → List ℕ) (xs : List (List ℕ)) → AllByRecursion (λ x. P (f x)) xs → AllByRecursion P (map f xs)
all_mapped P f [] all = tt
all_mapped P f (x ∷ xs) all = (all.0, all_mapped P f xs all.1)

all_of_mapped : (P : List ℕ → Type 0) (f : List ℕ → List ℕ) (xs : List (List ℕ)) → AllByRecursion P (map f xs) → AllByRecursion (λ x. P (f x)) xs
all_of_mapped P f [] all = tt
all_of_mapped P f (x ∷ xs) all = (all.0, all_of_mapped P f xs all.1)

-- whatever tree stands there, it is told whether it has each of these entries
abbrev pub Tells : Field → PageMap → ℕ → List (List ℕ) → Bool → Type 0
Tells field pages root ordered found = (entries : List (List ℕ)) (used : ℕ → ℕ) → IsTree (index_form field) pages root entries used
    → (IsTrue found → AllByRecursion (Contains entries) ordered) × (AllByRecursion (Contains entries) ordered → IsTrue found)

module _ (field : Field) (pages : PageMap) (root : ℕ) (cells ordered : List (List ℕ)) (moved : IsPermutation (map (entry_of field) cells) ordered) where
  pub each_has : Tells field pages root ordered true → HasEntries field pages root cells
  each_has tells = record {
    each = λ entries used tree. all_of_mapped (Contains entries) (entry_of field) cells
        (all_moved (Contains entries) ordered (map (entry_of field) cells) (IsPermutation-sym (map (entry_of field) cells) ordered moved) ((tells entries used tree).0 refl));
  }

  pub one_lacks : Tells field pages root ordered false → LacksEntries field pages root cells
  one_lacks tells = record {
    none = λ entries used tree have. false≢true
        ((tells entries used tree).1 (all_moved (Contains entries) (map (entry_of field) cells) ordered moved (all_mapped (Contains entries) (entry_of field) cells have)));
  }
