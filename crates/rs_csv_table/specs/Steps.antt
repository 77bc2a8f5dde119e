-- What is held and written of a table whose records are still read.
use Rattle.std.specs.Prelude.{◌≡◌, ◌<◌, ◌⊎◌, ℕ, List, [], ◌∷◌, ◌++◌, Option, flat_map, length}
use Rattle.std.specs.List.{AllByRecursion}
use Rattle.std.specs.Io.KnownBytes.{Appends}
use Rattle.rs_csv_table.specs.Fields.{Record}
use Rattle.rs_csv_table.specs.Tables.{IsCutIntoPortions, full_text}
use Rattle.rs_csv_table.specs.declared.table.TheConstants.{ROWS}

-- the header, and rows after it, of which those of the last portion are held
pub record HoldsRows (read held : List Record) (before after : Option (List ℕ)) : Type 0 where
  pub header : Record
  pub rows : List Record
  pub read_is : read ≡ header ∷ rows
  pub full : List (List Record)
  pub last : List Record
  pub cut : IsCutIntoPortions rows full last
  pub held_is : held ≡ header ∷ last
  pub put : Appends before after (full_text header full)

-- or nothing was read
abbrev pub SoFar : List Record → List Record → Option (List ℕ) → Option (List ℕ) → Type 0
SoFar read held before after = ((read ≡ []) × (held ≡ []) × Appends before after []) ⊎ HoldsRows read held before after

-- the same, where there is room for one row more in the last portion
pub record HoldsFewer (read held : List Record) (before after : Option (List ℕ)) : Type 0 where
  pub header : Record
  pub rows : List Record
  pub read_is : read ≡ header ∷ rows
  pub full : List (List Record)
  pub last : List Record
  pub whole : rows ≡ flat_map (λ portion. portion) full ++ last
  pub each : AllByRecursion (λ portion. length portion ≡ ROWS) full
  pub fewer : length last < ROWS
  pub held_is : held ≡ header ∷ last
  pub put : Appends before after (full_text header full)

abbrev pub HasRoom : List Record → List Record → Option (List ℕ) → Option (List ℕ) → Type 0
HasRoom read held before after = ((read ≡ []) × (held ≡ []) × Appends before after []) ⊎ HoldsFewer read held before after
