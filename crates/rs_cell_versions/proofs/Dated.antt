-- Cells whose versions have all been accepted: what the present version sees of them, and that changes keep them so.
use Rattle.std.proofs.Common.{◌≡◌, ◌<◌, ◌≤◌, ◌-◌, ◌^◌, ◌&&◌, ℕ, Bool, true, false, cond, leb, List, [], ◌∷◌, ◌++◌, length, filter, refl, sym, ap, ◌∙◌, subst, inl, inr, arith}
use Rattle.std.proofs.lemmas.Bool.{and_left, cases_lt, le-leb, ne_eqb}
use Rattle.std.proofs.lemmas.List.Sums.{length-filter}
use Rattle.std.proofs.lemmas.List.Sorted.{length_permutation}
use Rattle.std.specs.List.{AllByRecursion, count_by}
use Rattle.rs_pages.specs.PageMap.{PageMap}
use Rattle.rs_records.specs.Order.{is_below}
use Rattle.rs_tree.specs.Cells.{cells_above, cells_below, with_cell, without_cell}
use Rattle.rs_tree.specs.Form.{Form}
use Rattle.rs_cell_versions.specs.Changes.{with_end, without_cells}
use Rattle.rs_cell_versions.specs.Version.{IsDated, born_of, died_of, ended, is_clearable, is_dead, is_living, sees}
use Rattle.rs_cell_versions.specs.Versioned.{HoldsCells, Standing}
use Rattle.rs_cell_versions.proofs.Among.{all_at, filter_same}
use Rattle.rs_cell_versions.proofs.Ending.{born-ended, died-ended, living-not_dead}
use Rattle.rs_cell_versions.proofs.Seen.{ended_early, ended_late, living_seen, over}

dated_sees : (version : ℕ) (cell : List ℕ) → version < 2 ^ 64 - 1 → IsDated version cell → sees version cell ≡ is_living cell
dated_sees version cell before dated = elim dated.1 [
  | inl lives ↦ living_seen version cell before lives dated.0 ∙ sym lives
  | inr died ↦ over version cell died.1 ∙ sym (ne_eqb (died_of cell) (2 ^ 64 - 1) (λ same. omega (arith, died.1)))
]

pub dated_seen : (version : ℕ) (cells : List (List ℕ)) → version < 2 ^ 64 - 1 → AllByRecursion (IsDated version) cells → filter (sees version) cells ≡ filter is_living cells
dated_seen version cells before all = filter_same (sees version) is_living cells (λ c has. dated_sees version c before (all_at (IsDated version) cells c all has))

and_yes : (b : Bool) → (b && true) ≡ b
and_yes true = refl
and_yes false = refl

dated_clears : (version : ℕ) (cell : List ℕ) → IsDated version cell → is_clearable version cell ≡ is_dead cell
dated_clears version cell dated = elim dated.1 [
  | inl lives ↦ and_left (is_dead cell) (leb (died_of cell) version) (living-not_dead cell lives) ∙ sym (living-not_dead cell lives)
  | inr died ↦ ap (λ b. is_dead cell && b) (le-leb (died_of cell) version died.1) ∙ and_yes (is_dead cell)
]

pub dated_clearable : (version : ℕ) (cells : List (List ℕ)) → AllByRecursion (IsDated version) cells → count_by (is_clearable version) cells ≡ count_by is_dead cells
dated_clearable version cells all =
    sym (length-filter (is_clearable version) cells)
    ∙ ap length (filter_same (is_clearable version) is_dead cells (λ c has. dated_clears version c (all_at (IsDated version) cells c all has)))
    ∙ length-filter is_dead cells

pub dated_listed : (form : Form) (pages : PageMap) (standing : Standing) (cells : List (List ℕ)) (used : ℕ → ℕ) (version : ℕ) → HoldsCells form pages standing cells used
    → AllByRecursion (IsDated version) cells → count_by (is_clearable version) cells ≡ length standing.dead
dated_listed form pages standing cells used version holds all =
    dated_clearable version cells all ∙ sym (length-filter is_dead cells) ∙ sym (length_permutation (filter is_dead cells) standing.dead holds.dead)

-- what holds of each cell holds of those with one more and of those with fewer
module _ (P : List ℕ → Type 0) where
  pub all_kept : (test : List ℕ → Bool) (cells : List (List ℕ)) → AllByRecursion P cells → AllByRecursion P (filter test cells)
  all_kept test [] all = tt
  all_kept test (c ∷ cs) all = by_test (test c) all.0 (all_kept test cs all.1) where
    by_test : (b : Bool) → P c → AllByRecursion P (filter test cs) → AllByRecursion P (cond b (c ∷ filter test cs) (filter test cs))
    by_test true first rest = (first, rest)
    by_test false first rest = rest

  pub all_both : (xs ys : List (List ℕ)) → AllByRecursion P xs → AllByRecursion P ys → AllByRecursion P (xs ++ ys)
  all_both [] ys first last = last
  all_both (x ∷ xs) ys first last = (first.0, all_both xs ys first.1 last)

  pub all_with : (cell : List ℕ) (cells : List (List ℕ)) → P cell → AllByRecursion P cells → AllByRecursion P (with_cell cell cells)
  all_with cell cells one all =
      all_both (cells_below cell cells) (cell ∷ cells_above cell cells) (all_kept (λ other. is_below other cell) cells all) (one, all_kept (λ other. is_below cell other) cells all)

  pub all_without : (cell : List ℕ) (cells : List (List ℕ)) → AllByRecursion P cells → AllByRecursion P (without_cell cell cells)
  all_without cell cells all =
      all_both (cells_below cell cells) (cells_above cell cells) (all_kept (λ other. is_below other cell) cells all) (all_kept (λ other. is_below cell other) cells all)

  pub all_cleared : (gone cells : List (List ℕ)) → AllByRecursion P cells → AllByRecursion P (without_cells gone cells)
  all_cleared [] cells all = all
  all_cleared (g ∷ gs) cells all = all_cleared gs (without_cell g cells) (all_without g cells all)

pub dated_ended : (last version : ℕ) (cell : List ℕ) (cells : List (List ℕ)) → version ≤ last → version < 2 ^ 64 - 1 → 20 ≤ length cell → AllByRecursion (IsDated last) cells
    → AllByRecursion (IsDated last) (with_end version cell cells)
dated_ended last version cell cells upto before long all = elim (cases_lt (born_of cell) version) [
  | inl early ↦
      let born = born-ended version cell long in
      let died = died-ended version cell (omega (arith, before)) in
      let dated : IsDated last (ended version cell) = (omega (arith, born, early, upto), inr (omega (arith, born, died, early), omega (arith, died, upto))) in
      subst (AllByRecursion (IsDated last)) (sym (ended_late version cell cells early))
      (all_with (IsDated last) (ended version cell) (without_cell cell cells) dated (all_without (IsDated last) cell cells all))
  | inr late ↦ subst (AllByRecursion (IsDated last)) (sym (ended_early version cell cells late)) (all_without (IsDated last) cell cells all)
]
