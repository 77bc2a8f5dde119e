-- Rows of NULLs.
use Rattle.std.proofs.Common.{◌≡◌, ℕ, length}
use Rattle.std.proofs.lemmas.List.{length-replicate}
use Rattle.rs_value.specs.Row.{null}
use Rattle.rs_facts.specs.Operators.{nulls}

pub nulls-length : (n : ℕ) → length (nulls n) ≡ n
unfolding nulls
nulls-length n = length-replicate n null
