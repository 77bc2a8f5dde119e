-- What a caller's test of summaries answers.
use Rattle.std.specs.Prelude.{◌≡◌, Bool}

-- each answer is that of this test
pub record Computes {S : Type 0} (answers : S → Bool → Type 0) (test : S → Bool) : Type 0 where
  pub each : (summary : S) (result : Bool) → answers summary result → result ≡ test summary
