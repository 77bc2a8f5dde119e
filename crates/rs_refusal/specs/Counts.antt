-- Counts of 64 bits, as those of failed calls: they rise, and stop at their greatest number.
use Rattle.std.specs.Prelude.{◌⊎◌, ℕ, ◌+◌, ◌-◌, ◌^◌, ◌<◌, ◌≤◌, ◌==◌, if◌then◌else◌}

-- the last number of a count, at which it stays
abbrev pub last_count : ℕ
last_count = 2 ^ 64 - 1

-- the count after one more
unfoldable pub counted_on : ℕ → ℕ
counted_on count = if count == last_count then count else count + 1

-- the count is greater than it was, or stands at its last number
abbrev pub Rose : ℕ → ℕ → Type 0
Rose old new = (old < new) ⊎ (last_count ≤ new)
