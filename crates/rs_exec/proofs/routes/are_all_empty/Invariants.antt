use Rattle.std.proofs.Common.{take}
use Rattle.rs_exec.specs.Routes.{AllAreNone}
use Rattle.rs_exec.proofs.routes.are_all_empty.Given as goal

abbrev pub invariant-loop-rows : goal.invariant-loop-rows
invariant-loop-rows l = AllAreNone (take l.rows-index l.lists)
