use Rattle.std.proofs.Common.{drop}
use Rattle.rs_exec.specs.Carried.{IsCarried}
use Rattle.rs_exec.proofs.Lists.{Zips}
use Rattle.rs_exec.proofs.carrying.carried_each.Given as goal

abbrev pub invariant-loop-number : goal.invariant-loop-number
invariant-loop-number l = Zips (IsCarried l.sources) l.numbers (drop l.number-index l.numbers) l.rows.items
