use Rattle.std.proofs.Common.{◌≡◌, ◌==◌, drop}
use Rattle.std.specs.List.{list_any}
use Rattle.rs_exec.proofs.routes.is_in.Given as goal

abbrev pub invariant-loop-other : goal.invariant-loop-other
invariant-loop-other l = list_any (λ other. l.number == other) (drop l.other-index l.numbers) ≡ list_any (λ other. l.number == other) l.numbers
