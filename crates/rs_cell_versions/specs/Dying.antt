-- Cells by their deaths.
use Rattle.std.specs.Prelude.{◌≡◌, ◌<◌, ℕ, List, [], IsPermutation, length, map, slice_index_or}
use Rattle.std.specs.List.{All}
use Rattle.std.specs.List.Sorted.{IsNonDecreasingBy}
use Rattle.rs_cell_versions.specs.Version.{died_of}

-- the cell of a death
abbrev pub cell_of : List (List ℕ) → ℕ × ℕ → List ℕ
cell_of cells death = slice_index_or cells death.1 []

-- each is the version at which one of the cells died, and its place; each cell is there once, and those that died first come
-- before the others
pub record AreDeaths (cells : List (List ℕ)) (deaths : List (ℕ × ℕ)) : Type 0 where
  pub each : All (λ death. (death.1 < length cells) × (death.0 ≡ died_of (cell_of cells death))) deaths
  pub moved : IsPermutation cells (map (cell_of cells) deaths)
  pub in_order : IsNonDecreasingBy (λ death. death.0) deaths
