-- Cells no two of which are the same but for their ends: changes keep them so, and what is seen before an end stays in its place.
use Rattle.std.proofs.Common.{◌≡◌, ◌⊎◌, ◌<◌, ◌≤◌, ◌-◌, ◌^◌, ℕ, Bool, true, false, leb, ltb, List, [], ◌∷◌, ◌++◌, IsTrue, length, map, filter, refl, sym, ap, ◌∙◌, subst, inl, inr, arith}
use Rattle.std.proofs.lemmas.Bool.{and_from, cases_lt, false≢true, le-leb, lt-ltb}
use Rattle.std.proofs.lemmas.List.{append-nil, map-append}
use Rattle.std.proofs.lemmas.List.Elements.{Contains-append_cases, filter-append}
use Rattle.std.specs.List.{AllByRecursion, Contains}
use Rattle.rs_records.specs.Order.{Ascends, is_below}
use Rattle.rs_records.proofs.Orders.{is_below-self}
use Rattle.rs_tree.specs.Cells.{cells_above, cells_below, with_cell, without_cell}
use Rattle.rs_tree.proofs.Below.{below_one_way}
use Rattle.rs_cell_versions.specs.Changes.{with_end, without_cells}
use Rattle.rs_cell_versions.specs.Version.{LastsOnce, born_of, died_of, ended, is_living, lasting, sees}
use Rattle.rs_cell_versions.proofs.Among.{all_at, filter_same, filtered, first_or_rest, with_present}
use Rattle.rs_cell_versions.proofs.Ending.{born-ended, died-ended, lasting-ended, length-ended}
use Rattle.rs_cell_versions.proofs.Places.{same_place}
use Rattle.rs_cell_versions.proofs.Seen.{ended_early, ended_late, filter-with, filter-without, living_seen, still_there, unborn, unseen-with, unseen-without, without-ascends}

-- the cell isn't among those without it
not_without : (cell : List ℕ) (cs : List (List ℕ)) → Contains (without_cell cell cs) cell → ⊥
not_without cell cs has = elim (Contains-append_cases (cells_below cell cs) (cells_above cell cs) cell has) [
  | inl first ↦ false≢true (sym (is_below-self cell) ∙ (filtered (λ other. is_below other cell) cs cell first).0)
  | inr last ↦ false≢true (sym (is_below-self cell) ∙ (filtered (λ other. is_below cell other) cs cell last).0)
]

-- what is among cells with one more is that one or one of them
with_or : (cell one : List ℕ) (cs : List (List ℕ)) → Contains (with_cell cell cs) one → (cell ≡ one) ⊎ Contains cs one
with_or cell one cs has = elim (Contains-append_cases (cells_below cell cs) (cell ∷ cells_above cell cs) one has) [
  | inl first ↦ inr ((filtered (λ other. is_below other cell) cs one first).1)
  | inr last ↦ elim (first_or_rest one cell (cells_above cell cs) last) [
    | inl same ↦ inl same
    | inr rest ↦ inr ((filtered (λ other. is_below cell other) cs one rest).1)
  ]
]

pub once_without : (cell : List ℕ) (cells : List (List ℕ)) → LastsOnce cells → LastsOnce (without_cell cell cells)
once_without cell cells once = record {
  once = λ one other first second same. once.once one other (still_there cell one cells first) (still_there cell other cells second) same;
}

pub once_cleared : (gone cells : List (List ℕ)) → LastsOnce cells → LastsOnce (without_cells gone cells)
once_cleared [] cells once = once
once_cleared (g ∷ gs) cells once = once_cleared gs (without_cell g cells) (once_without g cells once)

pub once_with : (cell : List ℕ) (cells : List (List ℕ)) → ((other : List ℕ) → Contains cells other → lasting other ≡ lasting cell → ⊥) → LastsOnce cells → LastsOnce (with_cell cell cells)
once_with cell cells none once = record { once = λ one other first second same. both one other (with_or cell one cells first) (with_or cell other cells second) same } where
  both : (one other : List ℕ) → (cell ≡ one) ⊎ Contains cells one → (cell ≡ other) ⊎ Contains cells other → lasting one ≡ lasting other → one ≡ other
  both one other (inl first) (inl second) same = sym first ∙ second
  both one other (inl first) (inr second) same = absurd (none other second (sym same ∙ ap lasting (sym first)))
  both one other (inr first) (inl second) same = absurd (none one first (same ∙ ap lasting (sym second)))
  both one other (inr first) (inr second) same = once.once one other first second same

-- a cell of the others doesn't last as this one does
apart_of : (cell : List ℕ) (cells : List (List ℕ)) → LastsOnce cells → Contains cells cell → (other : List ℕ) → Contains (without_cell cell cells) other → lasting other ≡ lasting cell → ⊥
apart_of cell cells once has other inside same =
    let equal : other ≡ cell = once.once other cell (still_there cell other cells inside) has same in
    not_without cell cells (subst (λ c. Contains (without_cell cell cells) c) equal inside)

pub once_ended : (version : ℕ) (cell : List ℕ) (cells : List (List ℕ)) → 20 ≤ length cell → Contains cells cell → LastsOnce cells → LastsOnce (with_end version cell cells)
once_ended version cell cells long has once = elim (cases_lt (born_of cell) version) [
  | inl early ↦
      let lasts = lasting-ended version cell (omega (arith, long)) in
      subst LastsOnce (sym (ended_late version cell cells early))
      (once_with (ended version cell) (without_cell cell cells) (λ other inside same. apart_of cell cells once has other inside (same ∙ lasts)) (once_without cell cells once))
  | inr late ↦ subst LastsOnce (sym (ended_early version cell cells late)) (once_without cell cells once)
]

-- a test that all pass, and one that none does
filter_all : (p : List ℕ → Bool) (cs : List (List ℕ)) → ((c : List ℕ) → Contains cs c → p c ≡ true) → filter p cs ≡ cs
filter_all p cs all = filter_same p (λ _. true) cs all ∙ whole cs where
  whole : (xs : List (List ℕ)) → filter (λ _. true) xs ≡ xs
  whole [] = refl
  whole (x ∷ xs) = ap (λ ys. x ∷ ys) (whole xs)

filter_none : (p : List ℕ → Bool) (cs : List (List ℕ)) → ((c : List ℕ) → Contains cs c → p c ≡ false) → filter p cs ≡ []
filter_none p cs none = filter_same p (λ _. false) cs none ∙ nothing cs where
  nothing : (xs : List (List ℕ)) → filter (λ _. false) xs ≡ []
  nothing [] = refl
  nothing (x ∷ xs) = nothing xs

append_none : (xs ys : List (List ℕ)) → ys ≡ [] → xs ++ ys ≡ xs
append_none xs ys none = ap (λ zs. xs ++ zs) none ∙ append-nil xs

below_again : (cell : List ℕ) (cs : List (List ℕ)) → cells_below cell (without_cell cell cs) ≡ cells_below cell cs
below_again cell cs =
    filter-append (λ other. is_below other cell) (cells_below cell cs) (cells_above cell cs)
    ∙ append_none (filter (λ other. is_below other cell) (cells_below cell cs)) (filter (λ other. is_below other cell) (cells_above cell cs))
    (filter_none (λ other. is_below other cell) (cells_above cell cs) (λ c has. below_one_way cell c ((filtered (λ other. is_below cell other) cs c has).0)))
    ∙ filter_all (λ other. is_below other cell) (cells_below cell cs) (λ c has. (filtered (λ other. is_below other cell) cs c has).0)

above_again : (cell : List ℕ) (cs : List (List ℕ)) → cells_above cell (without_cell cell cs) ≡ cells_above cell cs
above_again cell cs =
    filter-append (λ other. is_below cell other) (cells_below cell cs) (cells_above cell cs)
    ∙ ap (λ xs. xs ++ filter (λ other. is_below cell other) (cells_above cell cs))
    (filter_none (λ other. is_below cell other) (cells_below cell cs) (λ c has. below_one_way c cell ((filtered (λ other. is_below other cell) cs c has).0)))
    ∙ filter_all (λ other. is_below cell other) (cells_above cell cs) (λ c has. (filtered (λ other. is_below cell other) cs c has).0)

-- a cell takes the place of one to which all others lie as to it
in_place : (last cell : List ℕ) (cs : List (List ℕ)) → ((c : List ℕ) → Contains (without_cell cell cs) c → (is_below c last ≡ is_below c cell) × (is_below last c ≡ is_below cell c))
    → with_cell last (without_cell cell cs) ≡ cells_below cell cs ++ last ∷ cells_above cell cs
in_place last cell cs same =
    let below : cells_below last (without_cell cell cs) ≡ cells_below cell cs =
    filter_same (λ other. is_below other last) (λ other. is_below other cell) (without_cell cell cs) (λ c has. (same c has).0) ∙ below_again cell cs in
    let above : cells_above last (without_cell cell cs) ≡ cells_above cell cs =
    filter_same (λ other. is_below last other) (λ other. is_below cell other) (without_cell cell cs) (λ c has. (same c has).1) ∙ above_again cell cs in
    ap (λ xs. xs ++ last ∷ cells_above last (without_cell cell cs)) below ∙ ap (λ xs. cells_below cell cs ++ last ∷ xs) above

lasting_in_place : (last cell : List ℕ) (xs ys : List (List ℕ)) → lasting last ≡ lasting cell → map lasting (xs ++ last ∷ ys) ≡ map lasting (xs ++ cell ∷ ys)
lasting_in_place last cell xs ys same =
    map-append lasting xs (last ∷ ys) ∙ ap (λ x. map lasting xs ++ x ∷ map lasting ys) same ∙ sym (map-append lasting xs (cell ∷ ys))

-- an ended cell before its end
module _ (at version : ℕ) (cell : List ℕ) (cells : List (List ℕ)) (before : at < version) (below : version < 2 ^ 64 - 1) (long : 20 ≤ length cell)
    (lives : IsTrue (is_living cell)) (up : Ascends cells) (has : Contains cells cell) (wide : AllByRecursion (λ other. length other ≡ length cell) cells) (once : LastsOnce cells) where
  abbrev rest : List (List ℕ)
  rest = without_cell cell cells

  abbrev last : List ℕ
  last = ended version cell

  abbrev Same : List (List ℕ) → Type 0
  Same after = map lasting (filter (sees at) after) ≡ map lasting (filter (sees at) cells)

  unborn_place : at < born_of cell → Same (with_cell last rest)
  unborn_place early =
      let hidden : sees at last ≡ false = unborn at last (omega (arith, early, born-ended version cell long)) in
      ap (map lasting) (unseen-with (sees at) last rest (without-ascends cell cells up) hidden ∙ unseen-without (sees at) cell cells up (unborn at cell early))

  placed : (c : List ℕ) → Contains (without_cell cell (filter (sees at) cells)) c → (is_below c last ≡ is_below c cell) × (is_below last c ≡ is_below cell c)
  placed c inside =
      let here : Contains cells c = (filtered (sees at) cells c (still_there cell c (filter (sees at) cells) inside)).1 in
      let differ : lasting c ≡ lasting cell → ⊥ = λ same. not_without cell (filter (sees at) cells) (subst (λ x. Contains (without_cell cell (filter (sees at) cells)) x) (once.once c cell here has same) inside) in
      same_place c cell last (omega (arith, long)) (all_at (λ other. length other ≡ length cell) cells c wide here) (length-ended version cell (omega (arith, long)))
      (lasting-ended version cell (omega (arith, long))) differ

  seen_place : born_of cell ≤ at → Same (with_cell last rest)
  seen_place born =
      let first : sees at cell ≡ true = living_seen at cell (omega (arith, before, below)) lives born in
      let second : sees at last ≡ true =
      and_from (leb (born_of last) at) (ltb at (died_of last)) (le-leb (born_of last) at (omega (arith, born, born-ended version cell long)))
      (lt-ltb at (died_of last) (omega (arith, before, died-ended version cell (omega (arith, below))))) in
      let now : filter (sees at) (with_cell last rest) ≡ cells_below cell (filter (sees at) cells) ++ last ∷ cells_above cell (filter (sees at) cells) =
      filter-with (sees at) last rest second ∙ ap (with_cell last) (filter-without (sees at) cell cells) ∙ in_place last cell (filter (sees at) cells) placed in
      let was : with_cell cell (filter (sees at) cells) ≡ filter (sees at) cells =
      sym (filter-with (sees at) cell cells first) ∙ ap (filter (sees at)) (with_present cell cells up has) in
      ap (map lasting) now
      ∙ lasting_in_place last cell (cells_below cell (filter (sees at) cells)) (cells_above cell (filter (sees at) cells)) (lasting-ended version cell (omega (arith, long)))
      ∙ ap (map lasting) was

  pub ended_in_place : Same (with_end version cell cells)
  ended_in_place = elim (cases_lt (born_of cell) version) [
    | inl early ↦ subst Same (sym (ended_late version cell cells early)) (elim (cases_lt at (born_of cell)) [ inl unseen ↦ unborn_place unseen | inr born ↦ seen_place born ])
    | inr late ↦ subst Same (sym (ended_early version cell cells late)) (ap (map lasting) (unseen-without (sees at) cell cells up (unborn at cell (omega (arith, late, before)))))
  ]
