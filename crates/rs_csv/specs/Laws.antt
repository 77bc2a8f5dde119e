-- A law of the input.
use Rattle.std.specs.Prelude.{◌≡◌, ℕ, List}
use Rattle.rs_csv.specs.Cutting.{IsCut}

-- the input is cut into records and a rest in one way
abbrev pub HasOneCut : ℕ → List ℕ → Type 0
HasOneCut separator input = (raws others : List (List ℕ)) (rest other : List ℕ) → IsCut separator input raws rest → IsCut separator input others other → (raws ≡ others) × (rest ≡ other)
