use Rattle.std.proofs.Common.{◌++◌, take}
use Rattle.std.specs.Prelude.{flat_map}
use Rattle.rs_protocol.specs.Inner.{PutsBut}
use Rattle.rs_protocol.proofs.put.put_later.Given as goal

-- The parts so far are put, but for what is pending.
abbrev pub invariant-loop-part : goal.invariant-loop-part
invariant-loop-part g l =
    PutsBut (l.fn.pending.items ++ flat_map (λ part. part.now) (take l.part-index l.parts)) l.pending.items (g.W.Write.contents l.fn.writer) (g.W.Write.contents l.writer)
