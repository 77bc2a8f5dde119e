use Rattle.std.proofs.Common.{drop}
use Rattle.rs_exec.proofs.WindowLaws.{Narrows}
use Rattle.rs_exec.proofs.windows.part_inside.Given as goal

abbrev pub invariant-loop-window : goal.invariant-loop-window
invariant-loop-window l = Narrows l.route l.windows (drop l.window-index l.windows) l.part
