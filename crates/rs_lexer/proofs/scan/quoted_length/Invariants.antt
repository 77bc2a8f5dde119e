use Rattle.std.proofs.Common.{◌≡◌, ℕ, ◌<◌, ◌≤◌, false, take}
use Rattle.std.specs.Prelude.{if◌then◌else◌}
use Rattle.rs_lexer.specs.Scanning.{accepts, run}
use Rattle.rs_lexer.specs.States.{Inside, Behind}
use Rattle.rs_lexer.proofs.scan.quoted_length.Given as goal

abbrev pub invariant-loop-place : goal.invariant-loop-place
invariant-loop-place l = record {
  state : run Inside (take l.place l.rest) ≡ (if l.is_open then Inside else Behind);
  inside : l.count ≤ l.place;
  closed : 0 < l.count → run Inside (take l.count l.rest) ≡ Behind;
  longest : (longer : ℕ) → l.count < longer → longer ≤ l.place → accepts (run Inside (take longer l.rest)) ≡ false;
}
