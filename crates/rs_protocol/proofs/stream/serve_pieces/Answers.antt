use Rattle.std.proofs.lemmas.Result.{err_from_is_err_and}
use Rattle.std.proofs.Common.{◌≡◌, ◌<◌, length, take, inl, inr, sym, ◌∙◌, subst, arith, []}
use Rattle.std.specs.Io.KnownBytes.{Consumes}
use Rattle.rs_protocol.specs.declared.stream.Fault.TheVariants.{Read, Write}
use Rattle.rs_protocol.proofs.Ending.{served_as, under_way, under_way_on, ended_writing, ended_reading, ended_unread, ended}
use Rattle.rs_protocol.proofs.stream.serve_pieces.Goals as goal

pub loop-reads-init : goal.loop-reads-init
loop-reads-init g c = (
  c.new-pending.ensures,
  g.met.E.Serve.becomes_itself c.args.engine.now,
  λ old is. (old, is, under_way c.new-kept.result.items old (g.R.Read.remaining c.args.reader.now) (g.W.Write.contents c.args.writer.now) c.new-kept.ensures),
)

pub returns-in-Ok-eq0-clause-served : goal.returns-in-Ok-eq0-clause-served
returns-in-Ok-eq0-clause-served g c old is =
    let none : c.in-Ok-eq0.field-0 ≡ 0 = c.in-Ok-eq0.field-0-test in
    let nothing : Consumes (g.R.Read.remaining c.loop-reads.reader) (g.R.Read.remaining c.read.new.reader) [] =
    subst (λ n. Consumes (g.R.Read.remaining c.loop-reads.reader) (g.R.Read.remaining c.read.new.reader) (take n c.read.new.piece)) none c.in-Ok-eq0.ensures.bytes.0 in
    let room : 0 < length c.read.new.piece = omega arith in
    let so = c.loop-reads.invariant.2 old is in (
      so.0,
      so.1,
      ended c.end_of.result c.loop-reads.kept.items old so.0 (g.R.Read.remaining c.args.reader.now)
          (g.R.Read.remaining c.loop-reads.reader) (g.R.Read.remaining c.read.new.reader) (g.W.Write.contents c.args.writer.now) (g.W.Write.contents c.loop-reads.writer)
          c.end_of.ensures nothing (c.in-Ok-eq0.ensures.bytes.1 none room) so.2,
    )

pub returns-in_err-serve_piece-in-Ok-clause-served : goal.returns-in_err-serve_piece-in-Ok-clause-served
returns-in_err-serve_piece-in-Ok-clause-served g c old is =
    let p = err_from_is_err_and c.from_residual.result c.from_residual.ensures.1 in
    let so = c.loop-reads.invariant.2 old is in
    let stop = c.in_err-serve_piece-in-Ok.ensures.served so.2.told old so.0 (g.W.Write.contents c.args.writer.now) so.1
    (served_as c.loop-reads.kept.items c.loop-reads.pending.items so.2.told old so.0 (g.W.Write.contents c.args.writer.now) (g.W.Write.contents c.loop-reads.writer) c.loop-reads.invariant.0 so.2.served) in
    rw (p.1, p.2) (
      stop.0,
      stop.1,
      ended_writing c.in_err-serve_piece-in-Ok.field-0.0 c.loop-reads.kept.items (take c.in-Ok.count c.read.new.piece)
          old so.0 stop.0 (g.R.Read.remaining c.args.reader.now)
          (g.R.Read.remaining c.loop-reads.reader) (g.R.Read.remaining c.read.new.reader) (g.W.Write.contents c.args.writer.now) (g.W.Write.contents c.loop-reads.writer)
          (g.W.Write.contents c.serve_piece.new.writer)
          c.in-Ok.ensures.bytes.0 so.2 stop.2,
    )

pub loop-reads-preserved : goal.loop-reads-preserved
loop-reads-preserved g c = (
  c.in_ok-serve_piece-in-Ok.ensures.none,
  g.met.E.Serve.becomes_later c.args.engine.now c.loop-reads.engine c.serve_piece.new.engine c.loop-reads.invariant.1 c.serve_piece.ensures.becomes,
  λ old is.
      let so = c.loop-reads.invariant.2 old is in
      let next = c.in_ok-serve_piece-in-Ok.ensures.served so.2.told old so.0 (g.W.Write.contents c.args.writer.now) so.1
      (served_as c.loop-reads.kept.items c.loop-reads.pending.items so.2.told old so.0 (g.W.Write.contents c.args.writer.now) (g.W.Write.contents c.loop-reads.writer) c.loop-reads.invariant.0 so.2.served) in (
        next.0,
        next.1,
        under_way_on c.loop-reads.kept.items c.serve_piece.new.kept.items (take c.in-Ok.count c.read.new.piece)
            old so.0 next.0 (g.R.Read.remaining c.args.reader.now)
            (g.R.Read.remaining c.loop-reads.reader) (g.R.Read.remaining c.read.new.reader) (g.W.Write.contents c.args.writer.now) (g.W.Write.contents c.loop-reads.writer)
            (g.W.Write.contents c.serve_piece.new.writer)
            c.in-Ok.ensures.bytes.0 so.2 next.2,
      ),
)

pub returns-in-Err-clause-served : goal.returns-in-Err-clause-served
returns-in-Err-clause-served g c old is =
    let so = c.loop-reads.invariant.2 old is in (
      so.0,
      so.1,
      ended_reading c.loop-reads.kept.items old so.0 (g.R.Read.remaining c.args.reader.now)
          (g.R.Read.remaining c.loop-reads.reader) (g.R.Read.remaining c.read.new.reader) (g.W.Write.contents c.args.writer.now) (g.W.Write.contents c.loop-reads.writer)
          c.in-Err.ensures.bytes so.2,
    )

pub returns-clause-served : goal.returns-clause-served
returns-clause-served g c old is =
    let so = c.loop-reads.invariant.2 old is in (
      so.0,
      so.1,
      ended_unread c.loop-reads.kept.items old so.0 (g.R.Read.remaining c.args.reader.now)
          (g.R.Read.remaining c.loop-reads.reader) (g.W.Write.contents c.args.writer.now) (g.W.Write.contents c.loop-reads.writer) so.2,
    )

pub returns-in_err-serve_piece-in-Ok-clause-stopped : goal.returns-in_err-serve_piece-in-Ok-clause-stopped
returns-in_err-serve_piece-in-Ok-clause-stopped g c old is =
    let p = err_from_is_err_and c.from_residual.result c.from_residual.ensures.1 in
    let so = c.loop-reads.invariant.2 old is in
    let stop = c.in_err-serve_piece-in-Ok.ensures.served so.2.told old so.0 (g.W.Write.contents c.args.writer.now) so.1
    (served_as c.loop-reads.kept.items c.loop-reads.pending.items so.2.told old so.0 (g.W.Write.contents c.args.writer.now) (g.W.Write.contents c.loop-reads.writer) c.loop-reads.invariant.0 so.2.served) in
    rw (p.1, p.2) (λ (read : c.in_err-serve_piece-in-Ok.field-0.0 ≡ Read). let wrong : Write ≡ Read = sym stop.2.0 ∙ read in inl cc)

pub returns-clause-stopped : goal.returns-clause-stopped
returns-clause-stopped g c old is = λ read. inr (omega arith)

pub returns-in-Ok-eq0-clause-becomes : goal.returns-in-Ok-eq0-clause-becomes
returns-in-Ok-eq0-clause-becomes g c = c.loop-reads.invariant.1

pub returns-in_err-serve_piece-in-Ok-clause-becomes : goal.returns-in_err-serve_piece-in-Ok-clause-becomes
returns-in_err-serve_piece-in-Ok-clause-becomes g c =
    g.met.E.Serve.becomes_later c.args.engine.now c.loop-reads.engine c.serve_piece.new.engine c.loop-reads.invariant.1 c.serve_piece.ensures.becomes

pub returns-in-Err-clause-becomes : goal.returns-in-Err-clause-becomes
returns-in-Err-clause-becomes g c = c.loop-reads.invariant.1

pub returns-clause-becomes : goal.returns-clause-becomes
returns-clause-becomes g c = c.loop-reads.invariant.1
