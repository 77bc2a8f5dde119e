-- Marks of numbers.
use Rattle.std.specs.Prelude.{ℕ, Bool, true, List, slice_index_or, if◌then◌else◌}
use Rattle.std.specs.List.{sum_by}

-- how often the number is taken: once where it is marked, or past the last mark
unfoldable pub taken : List Bool → ℕ → ℕ
taken marks number = if slice_index_or marks number true then 1 else 0

-- how many are not marked
unfoldable pub unmarked : List Bool → ℕ
unmarked marks = sum_by (λ mark. if mark then 0 else 1) marks
