use Rattle.std.proofs.Common.{drop, ℕ}
use Rattle.rs_exec.specs.Routes.{HasNone}
use Rattle.rs_exec.proofs.Lists.{Zips}
use Rattle.rs_exec.proofs.routes.none_each.Given as goal

abbrev pub invariant-loop-number : goal.invariant-loop-number
invariant-loop-number l = Zips (λ (number : ℕ) each. HasNone each) l.numbers (drop l._number-index l.numbers) l.rows.items
