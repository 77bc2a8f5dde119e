-- Which versions see a cell.
use Rattle.std.specs.Prelude.{◌≡◌, ◌⊎◌, ◌<◌, ◌≤◌, ◌-◌, ◌==◌, ◌&&◌, ◌++◌, ℕ, Bool, IsTrue, not, nat_le, nat_lt, List, Contains, take, drop, length}
use Rattle.std.specs.List.{AllByRecursion}
use Rattle.std.specs.Int.{w64, to_be_bytes}
use Rattle.byteorder.specs.Endian.{big_number}
use Rattle.rs_cell_versions.specs.declared.cell.TheConstants.{END_BYTES, LIVING, VERSION_BYTES}

-- the first version that sees the cell
unfoldable pub born_of : List ℕ → ℕ
born_of cell = big_number 8 (drop (length cell - VERSION_BYTES) cell)

-- the first version that no longer sees it
unfoldable pub died_of : List ℕ → ℕ
died_of cell = big_number 8 (drop (length cell - END_BYTES) cell)

-- no version has ended it
abbrev pub is_living : List ℕ → Bool
is_living cell = died_of cell == LIVING

abbrev pub is_dead : List ℕ → Bool
is_dead cell = not (is_living cell)

-- the version sees the cell
abbrev pub sees : ℕ → List ℕ → Bool
sees version cell = nat_le (born_of cell) version && nat_lt version (died_of cell)

-- no version from this one on sees the cell
abbrev pub is_clearable : ℕ → List ℕ → Bool
is_clearable oldest cell = is_dead cell && nat_le (died_of cell) oldest

-- all of the cell but the version of its end
unfoldable pub lasting : List ℕ → List ℕ
lasting cell = take (length cell - END_BYTES) cell

-- the same cell, ended at this version
unfoldable pub ended : ℕ → List ℕ → List ℕ
ended version cell = lasting cell ++ to_be_bytes w64 version

-- the cell was born at this version or before it, and lives, or died after its birth at this version or before it
abbrev pub IsDated : ℕ → List ℕ → Type 0
IsDated accepted cell = (born_of cell ≤ accepted) × (IsTrue (is_living cell) ⊎ ((born_of cell < died_of cell) × (died_of cell ≤ accepted)))

-- each of the dead died at this version or before it
abbrev pub HaveDiedBy : ℕ → List (List ℕ) → Type 0
HaveDiedBy version = AllByRecursion (λ dead. died_of dead ≤ version)

-- no two of the cells are the same but for their ends
pub record LastsOnce (cells : List (List ℕ)) : Type 0 where
  pub once : (one other : List ℕ) → Contains cells one → Contains cells other → lasting one ≡ lasting other → one ≡ other
