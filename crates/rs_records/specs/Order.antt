-- The order of records.
use Rattle.std.specs.Prelude.{ℕ, Bool, List, [], ◌∷◌, IsTrue}
use Rattle.std.specs.Ordering.{nat_cmp, is_lt}
use Rattle.std.specs.Cmp.Lexicographic.{slice_cmp}
use Rattle.std.specs.List.{AllByRecursion}

-- the first record is below the second: byte by byte from the left
unfoldable pub is_below : List ℕ → List ℕ → Bool
is_below one other = is_lt (slice_cmp nat_cmp one other)

-- each record is below all that follow
abbrev pub Ascends : List (List ℕ) → Type 0
Ascends [] = Unit {0}
Ascends (first ∷ rest) = AllByRecursion (λ other. IsTrue (is_below first other)) rest × Ascends rest
