use Rattle.std.proofs.lemmas.Result.{err_from_is_err_and}
use Rattle.std.proofs.lemmas.List.{take_all}
use Rattle.std.proofs.Common.{ℕ, List, [], ◌++◌, Bor, subst}
use Rattle.std.specs.Prelude.{flat_map}
use Rattle.rs_protocol.specs.Inner.{PutsBut}
use Rattle.rs_protocol.proofs.Putting.{PutsLater-none, PutsLater-part, PutsLater-stops-at}
use Rattle.rs_protocol.proofs.put.put_later.Goals as goal

pub loop-part-init : goal.loop-part-init
loop-part-init g c = PutsLater-none c.args.pending.now.items (g.W.Write.contents c.args.writer.now)

pub returns-in_err-hold : goal.returns-in_err-hold
returns-in_err-hold g c =
    let p = err_from_is_err_and c.from_residual.result c.from_residual.ensures.1 in
    rw (p.1, p.2)
    (PutsLater-stops-at (Bor (List ℕ)) c.in_err-hold.field-0.0 (λ part. part.now) c.args.parts.now c.loop-part.part-index (record { ref_ptr = (0, 0); now = [] }) c.args.pending.now.items c.loop-part.pending.items
    (g.W.Write.contents c.args.writer.now) (g.W.Write.contents c.loop-part.writer) (g.W.Write.contents c.hold.new.writer) c.loop-part-test.true c.loop-part.invariant c.in_err-hold.ensures)

pub loop-part-preserved : goal.loop-part-preserved
loop-part-preserved g c =
    PutsLater-part (Bor (List ℕ)) (λ part. part.now) c.args.parts.now c.loop-part.part-index (record { ref_ptr = (0, 0); now = [] }) c.args.pending.now.items c.loop-part.pending.items c.hold.new.pending.items
    (g.W.Write.contents c.args.writer.now) (g.W.Write.contents c.loop-part.writer) (g.W.Write.contents c.hold.new.writer) c.loop-part-test.true c.loop-part.invariant c.in_ok-hold.ensures

pub returns : goal.returns
returns g c =
    subst (λ parts. PutsBut (c.args.pending.now.items ++ flat_map (λ part. part.now) parts) c.loop-part.pending.items (g.W.Write.contents c.args.writer.now) (g.W.Write.contents c.loop-part.writer))
    (take_all c.loop-part.part-index c.args.parts.now c.loop-part-test.false) c.loop-part.invariant
