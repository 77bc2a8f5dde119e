-- A range that was written, in whole or in part.
use Rattle.std.specs.Prelude.{ℕ, List}

-- where it begins, the bytes that were written, and how many more the write was of
pub record Range : Type 0 where
  pub at : ℕ
  pub bytes : List ℕ
  pub unwritten : ℕ
