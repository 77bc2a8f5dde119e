-- What a disk keeps of its calls.
use Rattle.std.specs.Prelude.{ℕ, Bool, false}

-- how many calls have failed, and whether a sync has succeeded and no write or cut was called since
pub record Calls : Type 0 where
  pub failures : ℕ
  pub is_synced : Bool

-- no call was made yet
abbrev pub no_calls : Calls
no_calls = record { failures = 0; is_synced = false }
