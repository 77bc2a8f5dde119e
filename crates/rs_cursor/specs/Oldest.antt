-- The versions that the cursors of one session look at, and the lowest of some numbers.
use Rattle.std.specs.Prelude.{◌≡◌, ◌≤◌, ℕ, Some}
use Rattle.std.specs.FinMap as maps
use Rattle.rs_cursor.specs.declared.cursor.Cursor.{Cursor}
use Rattle.rs_facts.specs.Fact.{Name, Names}

-- one of these cursors looks at the version
pub record LooksAt (cursors : Names Cursor) (version : ℕ) : Type 0 where
  pub name : Name
  pub cursor : Cursor
  pub there : maps.get cursors name ≡ Some cursor
  pub same : cursor.version ≡ version

-- the lowest of the numbers that are among some, or `most` where it is lower; `most` where none is among them
pub record IsLowest (IsAmong : ℕ → Type 0) (most lowest : ℕ) : Type 0 where
  pub within : lowest ≤ most
  pub below : (n : ℕ) → IsAmong n → lowest ≤ n
  pub greatest : (bound : ℕ) → bound ≤ most → ((n : ℕ) → IsAmong n → bound ≤ n) → bound ≤ lowest
