-- What a cell's end and its clearing leave.
use Rattle.std.specs.Prelude.{ℕ, nat_lt, List, [], ◌∷◌, Contains, filter, take, if◌then◌else◌}
use Rattle.rs_page_owners.specs.Counts.{◌&◌}
use Rattle.rs_page_owners.specs.Owners.{Shares}
use Rattle.rs_pages.specs.PageMap.{PageMap}
use Rattle.rs_tree.specs.Cells.{with_cell, without_cell}
use Rattle.rs_tree.specs.Form.{Form}
use Rattle.rs_cell_versions.specs.Version.{born_of, ended, is_clearable}
use Rattle.rs_cell_versions.specs.Versioned.{BecomesCells, HoldsCells, Standing}

-- Versions before this one see the cell as they did, and no other does; where none is left that does, the cell is gone.
abbrev pub with_end : ℕ → List ℕ → List (List ℕ) → List (List ℕ)
with_end version cell cells =
    if nat_lt (born_of cell) version then with_cell (ended version cell) (without_cell cell cells) else without_cell cell cells

-- without each of the cells
abbrev pub without_cells : List (List ℕ) → List (List ℕ) → List (List ℕ)
without_cells [] cells = cells
without_cells (one ∷ rest) cells = without_cells rest (without_cell one cells)

-- the first of the dead that no version from the oldest on sees, at most so many
abbrev pub cleared : ℕ → ℕ → List (List ℕ) → List (List ℕ)
cleared oldest most dead = take most (filter (is_clearable oldest) dead)

-- where such cells stand there, the one ends if it is one of them, and they stay if not
pub record Ends (form : Form) (old new : PageMap) (was is : Standing) (version : ℕ) (cell : List ℕ) : Type 0 where
  pub there : (cells : List (List ℕ)) (used others : ℕ → ℕ) → HoldsCells form old was cells used → Shares old (used & others)
      → Contains cells cell → BecomesCells form old new used is (with_end version cell cells)
  pub missing : (cells : List (List ℕ)) (used others : ℕ → ℕ) → HoldsCells form old was cells used → Shares old (used & others)
      → (Contains cells cell → ⊥) → BecomesCells form old new used is cells
