use Rattle.std.proofs.Common.{◌≡◌, drop}
use Rattle.rs_csv_answers.specs.Words.{after_spaces}
use Rattle.rs_csv_answers.proofs.words.without_spaces.Given as goal

-- only spaces so far
abbrev pub invariant-loop-place : goal.invariant-loop-place
invariant-loop-place l = after_spaces (drop l.place l.bytes) ≡ after_spaces l.bytes
