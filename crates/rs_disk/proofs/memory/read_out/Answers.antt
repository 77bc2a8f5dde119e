use Rattle.std.proofs.Common.{slice_index, length, arith, ap, ◌∙◌}
use Rattle.rs_disk.proofs.Copying.{copied-out}
use Rattle.rs_disk.proofs.memory.read_out.Goals as goal
use Rattle.rs_disk.proofs.memory.read_out.Goals.{then-held-buffer, else-held-buffer}

-- where the bytes end early, the buffer was cleared
pub returns : goal.returns
returns c =
    copied-out c.args.bytes.now c.if-held-buffer.buffer c.overwrite.new.file c.args.at c.min-from.result c.min-held.result (length c.args.buffer.now)
    c.min-from.ensures c.min-held.ensures (c.overwrite.auto.file ∙ c.if-held-buffer.auto.buffer) c.overwrite.ensures.inside c.overwrite.ensures.after
    (λ early. elim c.if-held-buffer.branch [ then-held-buffer w ↦ λ k. ap (λ bytes. slice_index bytes k) w.buffer-is ∙ w.clear.ensures.zeros k | else-held-buffer w ↦ absurd (omega (arith, early, w.if-held-buffer.false)) ])
