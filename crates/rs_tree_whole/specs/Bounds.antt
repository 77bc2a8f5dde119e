-- Cells in order, from a least one up to a bound, where there are such.
use Rattle.std.specs.Prelude.{◌≡◌, true, Option, Some, None, ℕ, List, slice_get}
use Rattle.std.specs.List.{AllByRecursion}
use Rattle.rs_records.specs.Order.{is_below, Ascends}

-- the cell is the least one
abbrev pub IsLeast : Option (List ℕ) → List ℕ → Type 0
IsLeast None cell = Unit {0}
IsLeast (Some least) cell = cell ≡ least

-- the first of the cells is the least one
abbrev pub BeginsWith : Option (List ℕ) → List (List ℕ) → Type 0
BeginsWith None cells = Unit {0}
BeginsWith (Some least) cells = slice_get cells 0 ≡ Some least

-- the cell is below the bound
abbrev pub IsUnder : Option (List ℕ) → List ℕ → Type 0
IsUnder None cell = Unit {0}
IsUnder (Some bound) cell = is_below cell bound ≡ true

-- all the cells are below the bound
abbrev pub AreUnder : Option (List ℕ) → List (List ℕ) → Type 0
AreUnder None cells = Unit {0}
AreUnder (Some bound) cells = AllByRecursion (λ cell. is_below cell bound ≡ true) cells

-- the cells ascend from the least one up to the bound
pub record IsInOrder (least bound : Option (List ℕ)) (cells : List (List ℕ)) : Type 0 where
  pub ascends : Ascends cells
  pub begins : BeginsWith least cells
  pub ends : AreUnder bound cells
