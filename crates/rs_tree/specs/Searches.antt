-- What a search is for, and how much it may read.
use Rattle.std.specs.Prelude.{ℕ, ◌+◌, Bool, List, [], ◌∷◌, length, filter, if◌then◌else◌}
use Rattle.rs_records.specs.Order.{is_below}
use Rattle.rs_tree.specs.Cells.{cells_within}

-- the cells within the bounds that pass a test
abbrev pub wanted : List ℕ → List ℕ → (List ℕ → Bool) → List (List ℕ) → List (List ℕ)
wanted low high passes cells = filter passes (cells_within low high cells)

-- 1 where the cells begin below the first bound
abbrev pub cut_low : List ℕ → List (List ℕ) → ℕ
cut_low low [] = 0
cut_low low (c ∷ cs) = if is_below c low then 1 else 0

-- 1 where some cell is not below the second bound
abbrev pub cut_high : List ℕ → List (List ℕ) → ℕ
cut_high high [] = 0
cut_high high (c ∷ cs) = if is_below c high then cut_high high cs else 1

-- how many cells are wanted, and one more for each bound that cuts them
unfoldable pub weight : List ℕ → List ℕ → (List ℕ → Bool) → List (List ℕ) → ℕ
weight low high passes cells = length (wanted low high passes cells) + (cut_low low cells + cut_high high cells)
