-- How a disk counts its failed calls, and when it is synced.
use Rattle.std.specs.Prelude.{◌≡◌, ℕ, Bool, true, Result, MatchResult}
use Rattle.rs_refusal.specs.Counts.{counted_on}

-- a failed call counts once, and one that succeeded doesn't
abbrev pub Counts : {T E : Type 0} → Result T E → ℕ → ℕ → Type 0
Counts result old new = MatchResult result (λ _. new ≡ old) (λ _. new ≡ counted_on old)

-- a disk is synced after a sync that succeeded, and stays as it was after one that failed
abbrev pub Syncs : {T E : Type 0} → Result T E → Bool → Bool → Type 0
Syncs result old new = MatchResult result (λ _. new ≡ true) (λ _. new ≡ old)
