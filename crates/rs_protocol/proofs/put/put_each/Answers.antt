use Rattle.std.proofs.lemmas.Result.{err_from_is_err_and}
use Rattle.std.proofs.Common.{ℕ, List, [], Bor}
use Rattle.rs_protocol.proofs.Putting.{Puts-stops-at}
use Rattle.rs_protocol.proofs.put.put_each.Goals as goal

pub returns-in_err-put : goal.returns-in_err-put
returns-in_err-put g c =
    let p = err_from_is_err_and c.from_residual.result c.from_residual.ensures.1 in
    rw (p.1, p.2)
    (Puts-stops-at (Unit {0}) (Unit {0}) (Bor (List ℕ)) c.in_err-put.field-0.0 (λ part. part.now) c.args.parts.now c.loop-part.part-index
    (record { ref_ptr = (0, 0); now = [] }) (g.W.Write.contents c.args.writer.now) (g.W.Write.contents c.loop-part.writer)
    (g.W.Write.contents c.put.new.writer) c.loop-part-test.true c.loop-part.invariant c.in_err-put.ensures)
