-- Cells with versions, in a tree, and what is known of them without a look at a page.
use Rattle.std.specs.Prelude.{◌≡◌, ◌≤◌, ℕ, List, [], ◌∷◌, IsPermutation, count_by, filter}
use Rattle.std.specs.List.{AllByRecursion}
use Rattle.rs_page_owners.specs.Counts.{◌&◌}
use Rattle.rs_page_owners.specs.Owners.{Moves, Shares}
use Rattle.rs_pages.specs.PageMap.{PageMap}
use Rattle.rs_tree.specs.Form.{Form}
use Rattle.rs_tree.specs.Tree.{IsTree}
use Rattle.rs_cell_versions.specs.Version.{died_of, is_dead, is_living}

-- the root of the tree, how many living cells it has, and its dead ones, those that died first before the others
pub record Standing : Type 0 where
  pub root : ℕ
  pub living : ℕ
  pub dead : List (List ℕ)

-- the width of the cells, how they stand now, and how they stood at the last commit
pub record Versioned : Type 0 where
  pub width : ℕ
  pub working : Standing
  pub committed : Standing

-- there are no cells
abbrev pub nothing_stands : Standing
nothing_stands = record { root = 0; living = 0; dead = [] }

-- each died at the version at which those before it did, or at a later one
abbrev pub AreInOrder : List (List ℕ) → Type 0
AreInOrder [] = Unit {0}
AreInOrder (cell ∷ cells) = AllByRecursion (λ other. died_of cell ≤ died_of other) cells × AreInOrder cells

-- a tree with these cells and these pages stands there, so many of its cells live, and the others are those that are listed
pub record HoldsCells (form : Form) (pages : PageMap) (standing : Standing) (cells : List (List ℕ)) (used : ℕ → ℕ) : Type 0 where
  pub tree : IsTree form pages standing.root cells used
  pub living : count_by is_living cells ≡ standing.living
  pub dead : IsPermutation (filter is_dead cells) standing.dead

-- other cells have taken the place of these, and their pages have moved beside those of any other owners
pub record BecomesCells (form : Form) (old new : PageMap) (before : ℕ → ℕ) (standing : Standing) (cells : List (List ℕ)) : Type 0 where
  pub after : ℕ → ℕ
  pub holds : HoldsCells form new standing cells after
  pub moves : Moves old new before after

-- where cells stand there, whose pages are shared with other owners and a free list, changed ones take their place
pub record ChangesCells (form : Form) (old new : PageMap) (was is : Standing) (change : List (List ℕ) → List (List ℕ)) : Type 0 where
  pub each : (cells : List (List ℕ)) (used others : ℕ → ℕ) → HoldsCells form old was cells used → Shares old (used & others)
      → BecomesCells form old new used is (change cells)

-- no cells stand there so, with pages that are shared with other owners and a free list
pub record HoldsNone (form : Form) (pages : PageMap) (standing : Standing) : Type 0 where
  pub none : (cells : List (List ℕ)) (used others : ℕ → ℕ) → HoldsCells form pages standing cells used → Shares pages (used & others) → ⊥
