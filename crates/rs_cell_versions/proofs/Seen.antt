-- What versions see of cells, with a cell and without it.
use Rattle.std.proofs.Common.{◌≡◌, ◌<◌, ◌≤◌, ◌-◌, ◌^◌, ℕ, zero, suc, Bool, true, false, cond, min, leb, ltb, List, [], ◌∷◌, ◌++◌, IsTrue, length, take, map, filter, refl, sym, ap, ◌∙◌, subst, inl, inr, arith}
use Rattle.std.proofs.lemmas.Bool.{and_from, and_left, and_parts, and_right, cases_lt, eqb-true, leb-true, le-leb, le-ltb, lt-leb, lt-ltb}
use Rattle.std.proofs.lemmas.List.{length-take}
use Rattle.std.proofs.lemmas.List.Elements.{Contains-append_cases, filter-append}
use Rattle.std.proofs.lemmas.List.Sorted.{IsPermutation-map, IsPermutation-refl, IsPermutation-sym, IsPermutation-trans, sum_by-IsPermutation}
use Rattle.std.proofs.lemmas.List.Sums.{length-filter, sum_by-cons}
use Rattle.std.specs.List.{AllByRecursion, Contains, count_by}
use Rattle.std.specs.List.Sorted.{IsPermutation}
use Rattle.rs_pages.specs.PageMap.{PageMap}
use Rattle.rs_records.specs.Order.{Ascends, is_below}
use Rattle.rs_tree.specs.Cells.{cells_above, cells_below, with_cell, without_cell}
use Rattle.rs_tree.specs.Form.{Form}
use Rattle.rs_cell_versions.specs.Changes.{cleared, with_end, without_cells}
use Rattle.rs_cell_versions.specs.Version.{born_of, died_of, ended, is_clearable, is_dead, is_living, lasting, sees}
use Rattle.rs_cell_versions.specs.Versioned.{HoldsCells, Standing}
use Rattle.rs_cell_versions.proofs.Among.{among, filter-with_no, filter-with_yes, filtered, with_present, without_absent}
use Rattle.rs_cell_versions.proofs.Ending.{born-ended, died-ended, lasting-ended}

-- it doesn't matter which of two tests comes first
filters_commute : (p q : List ℕ → Bool) (cs : List (List ℕ)) → filter p (filter q cs) ≡ filter q (filter p cs)
filters_commute p q [] = refl
filters_commute p q (c ∷ cs) = by_tests (p c) (q c) refl refl (filters_commute p q cs) where
  keep : (t : List ℕ → Bool) (b : Bool) → t c ≡ b → (xs : List (List ℕ)) → filter t (c ∷ xs) ≡ cond b (c ∷ filter t xs) (filter t xs)
  keep t b e xs = ap (λ x. cond x (c ∷ filter t xs) (filter t xs)) e

  by_tests : (a b : Bool) → p c ≡ a → q c ≡ b → filter p (filter q cs) ≡ filter q (filter p cs) → filter p (filter q (c ∷ cs)) ≡ filter q (filter p (c ∷ cs))
  by_tests true true one other rest =
      ap (filter p) (keep q true other cs) ∙ keep p true one (filter q cs) ∙ ap (λ xs. c ∷ xs) rest
      ∙ sym (keep q true other (filter p cs)) ∙ ap (filter q) (sym (keep p true one cs))
  by_tests true false one other rest =
      ap (filter p) (keep q false other cs) ∙ rest ∙ sym (keep q false other (filter p cs)) ∙ ap (filter q) (sym (keep p true one cs))
  by_tests false true one other rest =
      ap (filter p) (keep q true other cs) ∙ keep p false one (filter q cs) ∙ rest ∙ ap (filter q) (sym (keep p false one cs))
  by_tests false false one other rest =
      ap (filter p) (keep q false other cs) ∙ rest ∙ ap (filter q) (sym (keep p false one cs))

-- a cell that passes is put among those that pass
pub filter-with : (test : List ℕ → Bool) (cell : List ℕ) (cs : List (List ℕ)) → test cell ≡ true → filter test (with_cell cell cs) ≡ with_cell cell (filter test cs)
filter-with test cell cs is =
    filter-append test (cells_below cell cs) (cell ∷ cells_above cell cs)
    ∙ ap (λ b. filter test (cells_below cell cs) ++ cond b (cell ∷ filter test (cells_above cell cs)) (filter test (cells_above cell cs))) is
    ∙ ap (λ xs. xs ++ cell ∷ filter test (cells_above cell cs)) (filters_commute test (λ other. is_below other cell) cs)
    ∙ ap (λ xs. cells_below cell (filter test cs) ++ cell ∷ xs) (filters_commute test (λ other. is_below cell other) cs)

pub filter-without : (test : List ℕ → Bool) (cell : List ℕ) (cs : List (List ℕ)) → filter test (without_cell cell cs) ≡ without_cell cell (filter test cs)
filter-without test cell cs =
    filter-append test (cells_below cell cs) (cells_above cell cs)
    ∙ ap (λ xs. xs ++ filter test (cells_above cell cs)) (filters_commute test (λ other. is_below other cell) cs)
    ∙ ap (λ xs. cells_below cell (filter test cs) ++ xs) (filters_commute test (λ other. is_below cell other) cs)

-- whether a cell that doesn't pass is there is nothing to those that pass
pub unseen-without : (test : List ℕ → Bool) (cell : List ℕ) (cs : List (List ℕ)) → Ascends cs → test cell ≡ false → filter test (without_cell cell cs) ≡ filter test cs
unseen-without test cell cs up isnt = elim (among cell cs) [
  | inl has ↦ sym (filter-with_no test cell cs isnt) ∙ ap (filter test) (with_present cell cs up has)
  | inr none ↦ ap (filter test) (without_absent cell cs up none)
]

pub unseen-with : (test : List ℕ → Bool) (cell : List ℕ) (cs : List (List ℕ)) → Ascends cs → test cell ≡ false → filter test (with_cell cell cs) ≡ filter test cs
unseen-with test cell cs up isnt = filter-with_no test cell cs isnt ∙ unseen-without test cell cs up isnt

-- what is left ascends
all_apart : (x y : List ℕ) (xs ys : List (List ℕ)) → AllByRecursion (λ other. IsTrue (is_below x other)) (xs ++ y ∷ ys) → AllByRecursion (λ other. IsTrue (is_below x other)) (xs ++ ys)
all_apart x y [] ys all = all.1
all_apart x y (c ∷ cs) ys all = (all.0, all_apart x y cs ys all.1)

ascends_apart : (y : List ℕ) (xs ys : List (List ℕ)) → Ascends (xs ++ y ∷ ys) → Ascends (xs ++ ys)
ascends_apart y [] ys up = up.1
ascends_apart y (c ∷ cs) ys up = (all_apart c y cs ys up.0, ascends_apart y cs ys up.1)

pub without-ascends : (cell : List ℕ) (cs : List (List ℕ)) → Ascends cs → Ascends (without_cell cell cs)
without-ascends cell cs up = elim (among cell cs) [
  | inl has ↦ ascends_apart cell (cells_below cell cs) (cells_above cell cs) (subst Ascends (sym (with_present cell cs up has)) up)
  | inr none ↦ subst Ascends (sym (without_absent cell cs up none)) up
]

-- a living cell is seen from its birth on
pub living_seen : (version : ℕ) (cell : List ℕ) → version < 2 ^ 64 - 1 → IsTrue (is_living cell) → born_of cell ≤ version → sees version cell ≡ true
living_seen version cell before lives born =
    let died : died_of cell ≡ 2 ^ 64 - 1 = eqb-true (died_of cell) (2 ^ 64 - 1) lives in
    and_from (leb (born_of cell) version) (ltb version (died_of cell)) (le-leb (born_of cell) version born) (lt-ltb version (died_of cell) (omega arith))

pub unborn : (version : ℕ) (cell : List ℕ) → version < born_of cell → sees version cell ≡ false
unborn version cell early = and_left (leb (born_of cell) version) (ltb version (died_of cell)) (lt-leb (born_of cell) version early)

pub over : (version : ℕ) (cell : List ℕ) → died_of cell ≤ version → sees version cell ≡ false
over version cell late = and_right (leb (born_of cell) version) (ltb version (died_of cell)) (le-ltb version (died_of cell) late)

pub added_seen : (version : ℕ) (cell : List ℕ) (cells : List (List ℕ)) → version < 2 ^ 64 - 1 → IsTrue (is_living cell) → born_of cell ≤ version
    → filter (sees version) (with_cell cell cells) ≡ with_cell cell (filter (sees version) cells)
added_seen version cell cells before lives born = filter-with (sees version) cell cells (living_seen version cell before lives born)

pub added_unseen : (version : ℕ) (cell : List ℕ) (cells : List (List ℕ)) → Ascends cells → version < born_of cell → filter (sees version) (with_cell cell cells) ≡ filter (sees version) cells
added_unseen version cell cells up early = unseen-with (sees version) cell cells up (unborn version cell early)

-- what is left of cells is some of them
pub still_there : (cell one : List ℕ) (cs : List (List ℕ)) → Contains (without_cell cell cs) one → Contains cs one
still_there cell one cs inside = elim (Contains-append_cases (cells_below cell cs) (cells_above cell cs) one inside) [
  | inl first ↦ (filtered (λ other. is_below other cell) cs one first).1
  | inr last ↦ (filtered (λ other. is_below cell other) cs one last).1
]

pub ended_early : (version : ℕ) (cell : List ℕ) (cells : List (List ℕ)) → version ≤ born_of cell → with_end version cell cells ≡ without_cell cell cells
ended_early version cell cells late = ap (λ b. cond b (with_cell (ended version cell) (without_cell cell cells)) (without_cell cell cells)) (le-ltb (born_of cell) version late)

pub ended_late : (version : ℕ) (cell : List ℕ) (cells : List (List ℕ)) → born_of cell < version → with_end version cell cells ≡ with_cell (ended version cell) (without_cell cell cells)
ended_late version cell cells early = ap (λ b. cond b (with_cell (ended version cell) (without_cell cell cells)) (without_cell cell cells)) (lt-ltb (born_of cell) version early)

-- an ended cell before its end
module _ (at version : ℕ) (cell : List ℕ) (cells : List (List ℕ)) (before : at < version) (below : version < 2 ^ 64 - 1) (long : 20 ≤ length cell)
    (lives : IsTrue (is_living cell)) (up : Ascends cells) (has : Contains cells cell) (none : Contains cells (ended version cell) → ⊥) where
  abbrev rest : List (List ℕ)
  rest = without_cell cell cells

  abbrev last : List ℕ
  last = ended version cell

  abbrev Same : List (List ℕ) → Type 0
  Same after = IsPermutation (map lasting (filter (sees at) after)) (map lasting (filter (sees at) cells))

  same_of : (after : List (List ℕ)) → filter (sees at) after ≡ filter (sees at) cells → Same after
  same_of after e = subst (λ xs. IsPermutation (map lasting xs) (map lasting (filter (sees at) cells))) (sym e) (IsPermutation-refl (map lasting (filter (sees at) cells)))

  unborn_end : at < born_of cell → Same (with_cell last rest)
  unborn_end early =
      let hidden : sees at last ≡ false = unborn at last (omega (arith, born-ended version cell long)) in
      same_of (with_cell last rest) (unseen-with (sees at) last rest (without-ascends cell cells up) hidden ∙ unseen-without (sees at) cell cells up (unborn at cell early))

  seen_end : born_of cell ≤ at → Same (with_cell last rest)
  seen_end born =
      let first : sees at cell ≡ true = living_seen at cell (omega arith) lives born in
      let second : sees at last ≡ true =
      and_from (leb (born_of last) at) (ltb at (died_of last)) (le-leb (born_of last) at (omega (arith, born-ended version cell long)))
      (lt-ltb at (died_of last) (omega (arith, died-ended version cell (omega arith)))) in
      let apart : without_cell last rest ≡ rest = without_absent last rest (without-ascends cell cells up) (λ inside. none (still_there cell last cells inside)) in
      let now : IsPermutation (filter (sees at) (with_cell last rest)) (last ∷ filter (sees at) rest) =
      subst (λ xs. IsPermutation (filter (sees at) (with_cell last rest)) (last ∷ filter (sees at) xs)) apart (filter-with_yes (sees at) last rest second) in
      let was : IsPermutation (filter (sees at) cells) (cell ∷ filter (sees at) rest) =
      subst (λ xs. IsPermutation (filter (sees at) xs) (cell ∷ filter (sees at) rest)) (with_present cell cells up has) (filter-with_yes (sees at) cell cells first) in
      let one : IsPermutation (map lasting (filter (sees at) (with_cell last rest))) (map lasting (last ∷ filter (sees at) rest)) =
      IsPermutation-map lasting (filter (sees at) (with_cell last rest)) (last ∷ filter (sees at) rest) now in
      let other : IsPermutation (map lasting (cell ∷ filter (sees at) rest)) (map lasting (filter (sees at) cells)) =
      IsPermutation-sym (map lasting (filter (sees at) cells)) (map lasting (cell ∷ filter (sees at) rest))
      (IsPermutation-map lasting (filter (sees at) cells) (cell ∷ filter (sees at) rest) was) in
      let same : map lasting (last ∷ filter (sees at) rest) ≡ map lasting (cell ∷ filter (sees at) rest) =
      ap (λ x. x ∷ map lasting (filter (sees at) rest)) (lasting-ended version cell (omega arith)) in
      IsPermutation-trans (map lasting (filter (sees at) (with_cell last rest))) (map lasting (cell ∷ filter (sees at) rest)) (map lasting (filter (sees at) cells))
      (subst (IsPermutation (map lasting (filter (sees at) (with_cell last rest)))) same one) other

  pub ended_seen : Same (with_end version cell cells)
  ended_seen = elim (cases_lt (born_of cell) version) [
    | inl early ↦ subst Same (sym (ended_late version cell cells early)) (elim (cases_lt at (born_of cell)) [ inl unseen ↦ unborn_end unseen | inr born ↦ seen_end born ])
    | inr late ↦ subst Same (sym (ended_early version cell cells late)) (same_of rest (unseen-without (sees at) cell cells up (unborn at cell (omega arith))))
  ]

-- and from it on
pub ended_unseen : (at version : ℕ) (cell : List ℕ) (cells : List (List ℕ)) → version ≤ at → version < 2 ^ 64 - 1 → Ascends cells
    → filter (sees at) (with_end version cell cells) ≡ without_cell cell (filter (sees at) cells)
ended_unseen at version cell cells after below up = elim (cases_lt (born_of cell) version) [
  | inl early ↦
      let gone : sees at (ended version cell) ≡ false = over at (ended version cell) (omega (arith, died-ended version cell (omega arith))) in
      ap (filter (sees at)) (ended_late version cell cells early)
      ∙ unseen-with (sees at) (ended version cell) (without_cell cell cells) (without-ascends cell cells up) gone ∙ filter-without (sees at) cell cells
  | inr late ↦ ap (filter (sees at)) (ended_early version cell cells late) ∙ filter-without (sees at) cell cells
]

-- cells that are cleared
clearable_over : (version oldest : ℕ) (cell : List ℕ) → oldest ≤ version → is_clearable oldest cell ≡ true → sees version cell ≡ false
clearable_over version oldest cell late is =
    let died = leb-true (died_of cell) oldest ((and_parts (is_dead cell) (leb (died_of cell) oldest) is).1) in
    over version cell (omega arith)

abbrev AllClearable : ℕ → List (List ℕ) → Type 0
AllClearable oldest = AllByRecursion (λ cell. is_clearable oldest cell ≡ true)

all_clearable : (oldest : ℕ) (cells : List (List ℕ)) → AllClearable oldest (filter (is_clearable oldest) cells)
all_clearable oldest [] = tt
all_clearable oldest (c ∷ cs) = by_test (is_clearable oldest c) refl (all_clearable oldest cs) where
  by_test : (b : Bool) → is_clearable oldest c ≡ b → AllClearable oldest (filter (is_clearable oldest) cs) → AllClearable oldest (cond b (c ∷ filter (is_clearable oldest) cs) (filter (is_clearable oldest) cs))
  by_test true e rest = (e, rest)
  by_test false e rest = rest

all_taken : (P : List ℕ → Type 0) (n : ℕ) (cells : List (List ℕ)) → AllByRecursion P cells → AllByRecursion P (take n cells)
all_taken P zero cells all = tt
all_taken P (suc n) [] all = tt
all_taken P (suc n) (c ∷ cs) all = (all.0, all_taken P n cs all.1)

without_over : (version oldest : ℕ) (gone cells : List (List ℕ)) → oldest ≤ version → AllClearable oldest gone → Ascends cells → filter (sees version) (without_cells gone cells) ≡ filter (sees version) cells
without_over version oldest [] cells late all up = refl
without_over version oldest (g ∷ gs) cells late all up =
    without_over version oldest gs (without_cell g cells) late all.1 (without-ascends g cells up)
    ∙ unseen-without (sees version) g cells up (clearable_over version oldest g late all.0)

pub cleared_seen : (version oldest most : ℕ) (dead cells : List (List ℕ)) → oldest ≤ version → Ascends cells
    → filter (sees version) (without_cells (cleared oldest most dead) cells) ≡ filter (sees version) cells
cleared_seen version oldest most dead cells late up =
    without_over version oldest (cleared oldest most dead) cells late
    (all_taken (λ cell. is_clearable oldest cell ≡ true) most (filter (is_clearable oldest) dead) (all_clearable oldest dead)) up

-- all that are clearable are dead
count_dead : (oldest : ℕ) (cells : List (List ℕ)) → count_by (is_clearable oldest) (filter is_dead cells) ≡ count_by (is_clearable oldest) cells
count_dead oldest [] = refl
count_dead oldest (c ∷ cs) = by_test (is_dead c) refl (count_dead oldest cs) where
  by_test : (b : Bool) → is_dead c ≡ b → count_by (is_clearable oldest) (filter is_dead cs) ≡ count_by (is_clearable oldest) cs
      → count_by (is_clearable oldest) (filter is_dead (c ∷ cs)) ≡ count_by (is_clearable oldest) (c ∷ cs)
  by_test true e rest =
      let weigh : List ℕ → ℕ = λ x. cond (is_clearable oldest x) 1 0 in
      ap (λ t. count_by (is_clearable oldest) (cond t (c ∷ filter is_dead cs) (filter is_dead cs))) e
      ∙ omega (arith, sum_by-cons weigh c (filter is_dead cs), sum_by-cons weigh c cs, rest)
  by_test false e rest =
      let weigh : List ℕ → ℕ = λ x. cond (is_clearable oldest x) 1 0 in
      let isnt : is_clearable oldest c ≡ false = and_left (is_dead c) (leb (died_of c) oldest) e in
      let nothing : weigh c ≡ 0 = ap (λ t. cond t 1 0) isnt in
      ap (λ t. count_by (is_clearable oldest) (cond t (c ∷ filter is_dead cs) (filter is_dead cs))) e
      ∙ omega (arith, sum_by-cons weigh c cs, nothing, rest)

pub cleared_count : (form : Form) (pages : PageMap) (standing : Standing) (cells : List (List ℕ)) (used : ℕ → ℕ) (oldest most : ℕ)
    → HoldsCells form pages standing cells used → length (cleared oldest most standing.dead) ≡ min most (count_by (is_clearable oldest) cells)
cleared_count form pages standing cells used oldest most holds =
    length-take most (filter (is_clearable oldest) standing.dead)
    ∙ ap (min most) (length-filter (is_clearable oldest) standing.dead
    ∙ sum_by-IsPermutation (λ x. cond (is_clearable oldest x) 1 0) (filter is_dead cells) standing.dead holds.dead ∙ count_dead oldest cells)
