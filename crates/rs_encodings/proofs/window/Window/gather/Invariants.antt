use Rattle.std.proofs.Common.{◌-◌, length}
use Rattle.std.specs.Io.KnownBytes.{Keeps, prepend_known}
use Rattle.rs_encodings.specs.Waiting.{items}
use Rattle.rs_encodings.proofs.window.Window.gather.Given as goal

abbrev pub invariant-loop-self : goal.invariant-loop-self
invariant-loop-self g l =
    Keeps (prepend_known (items l.fn.self) (g.R.Read.remaining l.fn.reader)) (prepend_known (items l.self) (g.R.Read.remaining l.reader))

abbrev pub decreases-loop-self : goal.decreases-loop-self
decreases-loop-self g l = 4 - length (items l.self)
