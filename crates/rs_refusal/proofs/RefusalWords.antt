-- How long the words of a refusal are.
use Rattle.std.proofs.Common.{ℕ, ◌^◌, ◌<◌, ◌≤◌, length, decimal, arith}
use Rattle.std.proofs.lemmas.Fmt.{length-decimal-le}

pub column_digits_short : (column : ℕ) → column < 2 ^ 64 → length (decimal column) ≤ 20
column_digits_short column fits = length-decimal-le 20 column (omega arith) (omega arith) fits
