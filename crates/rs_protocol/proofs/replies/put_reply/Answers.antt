use Rattle.std.proofs.lemmas.Result.{err_from_is_err_and}
use Rattle.rs_machine.specs.ReplyText.{ok_text}
use Rattle.rs_protocol.proofs.Putting.{PutsLater-then, PutsLater-stops}
use Rattle.rs_protocol.proofs.replies.put_reply.Goals as goal

pub returns-in_err-put_rows-in-Done : goal.returns-in_err-put_rows-in-Done
returns-in_err-put_rows-in-Done g c =
    let p = err_from_is_err_and c.from_residual.result c.from_residual.ensures.1 in
    rw (p.1, p.2, c.in-Done.is, ← c.as_slice.ensures.value)
    (PutsLater-stops (Unit {0}) c.in_err-put_rows-in-Done.field-0.0 _ (ok_text c.args.session c.in-Done.count) c.args.pending.now.items (g.W.Write.contents c.args.writer.now)
    (g.W.Write.contents c.put_rows.new.writer) c.in_err-put_rows-in-Done.ensures)

pub returns-in_ok-put_rows-in-Done : goal.returns-in_ok-put_rows-in-Done
returns-in_ok-put_rows-in-Done g c =
    rw (c.in-Done.is, ← c.as_slice.ensures.value)
    (PutsLater-then (Unit {0}) c.put_count.result _ (ok_text c.args.session c.in-Done.count) c.args.pending.now.items c.put_rows.new.pending.items c.put_count.new.pending.items (g.W.Write.contents c.args.writer.now)
    (g.W.Write.contents c.put_rows.new.writer) (g.W.Write.contents c.put_count.new.writer) c.in_ok-put_rows-in-Done.ensures c.put_count.ensures)
