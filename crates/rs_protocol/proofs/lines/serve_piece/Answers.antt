use Rattle.std.proofs.lemmas.Result.{err_from_is_err_and}
use Rattle.std.proofs.Common.{◌++◌}
use Rattle.rs_protocol.proofs.Serving.{GoesOn-put}
use Rattle.rs_protocol.proofs.lines.serve_piece.Goals as goal

pub returns-in_err-take_piece-clause-served : goal.returns-in_err-take_piece-clause-served
returns-in_err-take_piece-clause-served g c told first old before is served =
    let p = err_from_is_err_and c.from_residual.result c.from_residual.ensures.1 in
    let stop = c.in_err-take_piece.ensures.served told first old before is served in
    rw (p.1, p.2) stop

pub returns-clause-served : goal.returns-clause-served
returns-clause-served g c told first old before is served =
    let so = c.in_ok-take_piece.ensures.served told first old before is served in (
      so.0,
      so.1,
      GoesOn-put (Unit {0}) c.put_pending.result c.take_piece.new.kept.items c.take_piece.new.pending.items (told ++ c.args.piece.now) first so.0 before
          (g.W.Write.contents c.take_piece.new.writer) (g.W.Write.contents c.put_pending.new.writer) so.2 c.put_pending.ensures.puts,
    )
