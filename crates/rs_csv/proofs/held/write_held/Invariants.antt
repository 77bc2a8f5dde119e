use Rattle.std.proofs.Common.{take}
use Rattle.std.specs.List.{concat}
use Rattle.std.specs.Io.KnownBytes.{Appends}
use Rattle.rs_csv.proofs.held.write_held.Given as goal

abbrev pub invariant-loop-place : goal.invariant-loop-place
invariant-loop-place g l = Appends (g.W.Write.contents l.fn.output) (g.W.Write.contents l.output) (concat (take l.place l.held))
