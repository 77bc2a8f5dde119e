use Rattle.std.proofs.Common.{◌≡◌}
use Rattle.rs_server.proofs.words.explain_refusal.Given as goal

abbrev pub invariant-loop-refusal : goal.invariant-loop-refusal
invariant-loop-refusal g l = l.errors ≡ l.fn.errors
