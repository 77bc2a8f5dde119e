-- What a disk in memory stores.
use Rattle.std.specs.Prelude.{ℕ, List}
use Rattle.rs_disk.specs.Calls.{Calls}

-- its bytes, and its calls so far
pub record Stored : Type 0 where
  pub bytes : List ℕ
  pub calls : Calls
