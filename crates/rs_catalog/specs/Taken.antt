-- Which numbers are taken, a test for each from 0 on.
use Rattle.std.specs.Prelude.{ℕ, Bool, false, List, replicate}

unfoldable pub none_taken : ℕ → List Bool
none_taken n = replicate n false
