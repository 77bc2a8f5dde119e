use Rattle.std.proofs.Common.{◌≡◌, ℕ, drop}
use Rattle.rs_exec.specs.Carried.{given_on, rows_given}
use Rattle.rs_exec.proofs.carrying.spans_from.Given as goal

-- what is given at the places that are left is what is given
abbrev pub invariant-loop-place : goal.invariant-loop-place
invariant-loop-place l = (k : ℕ) → given_on (drop l.place l.others) (drop l.place l.sources.rows.now.others.items) l.number k ≡ rows_given l.sources l.number k
