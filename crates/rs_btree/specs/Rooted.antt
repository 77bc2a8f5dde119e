-- What a tree is to its callers.
use Rattle.std.specs.Prelude.{ℕ}

-- cells of one width below a root (0: none)
pub record Rooted : Type 0 where
  pub width : ℕ
  pub root : ℕ
