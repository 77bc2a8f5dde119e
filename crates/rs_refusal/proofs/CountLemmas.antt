-- A count of failures never falls, and one more is a rise.
use Rattle.std.proofs.Common.{ℕ, ◌≤◌, arith}
use Rattle.std.proofs.lemmas.Bool.Decides.{nat_tests}
use Rattle.rs_refusal.specs.Counts.{counted_on, Rose}

-- one more is no less
pub counted_on_le : (n : ℕ) → n ≤ counted_on n
unfolding counted_on
counted_on_le n = grind (arith, nat_tests)

-- one more is a rise
pub Rose_counted_on : (n : ℕ) → Rose n (counted_on n)
unfolding counted_on
Rose_counted_on n = grind (arith, nat_tests)

-- a rise before a count that didn't fall
pub Rose-then_le : (a b c : ℕ) → Rose a b → b ≤ c → Rose a c
Rose-then_le a b c rose h = grind arith

-- a rise after a count that didn't fall
pub Rose-after_le : (a b c : ℕ) → a ≤ b → Rose b c → Rose a c
Rose-after_le a b c h rose = grind arith
