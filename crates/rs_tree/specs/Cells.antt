-- Lists of cells in order.
use Rattle.std.specs.Prelude.{ℕ, Bool, not, ◌&&◌, List, ◌∷◌, ◌++◌, filter}
use Rattle.rs_records.specs.Order.{is_below}

-- the cell is not below the first bound, and below the second
abbrev pub is_within : List ℕ → List ℕ → List ℕ → Bool
is_within low high cell = not (is_below cell low) && is_below cell high

-- the cells from one bound on, below another
abbrev pub cells_within : List ℕ → List ℕ → List (List ℕ) → List (List ℕ)
cells_within low high = filter (is_within low high)

-- the cells below one
abbrev pub cells_below : List ℕ → List (List ℕ) → List (List ℕ)
cells_below cell = filter (λ other. is_below other cell)

-- the cells that one is below
abbrev pub cells_above : List ℕ → List (List ℕ) → List (List ℕ)
cells_above cell = filter (λ other. is_below cell other)

-- with the cell in its place, once
abbrev pub with_cell : List ℕ → List (List ℕ) → List (List ℕ)
with_cell cell cells = cells_below cell cells ++ cell ∷ cells_above cell cells

-- without the cell
abbrev pub without_cell : List ℕ → List (List ℕ) → List (List ℕ)
without_cell cell cells = cells_below cell cells ++ cells_above cell cells
