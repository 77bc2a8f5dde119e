use Rattle.std.proofs.Common.{◌≡◌, ◌+◌, ◌-◌, [], ◌++◌, ◌∷◌, length, take, drop, refl, sym, ap, subst, ◌∙◌, append_assoc, append-nil, length-drop, length-take, arith}
use Rattle.std.proofs.lemmas.List.{take_all}
use Rattle.std.proofs.lemmas.Result.{err_from_is_err_and}
use Rattle.rs_machine.specs.Stream.{LINE_FEED}
use Rattle.rs_protocol.specs.Inner.{IsServed}
use Rattle.rs_protocol.proofs.Serving.{IsServed-text}
use Rattle.rs_protocol.proofs.Pieces.{after_line, cut_at_feed, no_feed, stops_in_piece, told_line}
use Rattle.rs_protocol.proofs.lines.take_piece.Goals as goal

pub loop-place-init : goal.loop-place-init
loop-place-init g c = (
  [],
  refl,
  g.met.E.Serve.becomes_itself c.args.engine.now,
  λ told first old before is served. (
    old,
    is,
    subst (λ t. IsServed c.args.kept.now.items c.args.pending.now.items t first old before (g.W.Write.contents c.args.writer.now)) (sym (append-nil told)) served,
  ),
)

pub loop-place-smaller : goal.loop-place-smaller
loop-place-smaller g c =
    let rest = c.loop-place.rest.now in
    let k = c.in-Some.place in
    let within = (cut_at_feed rest c.memchr.result k c.in-Some.is c.memchr.ensures).within in
    omega (arith, within, length-take (length rest - (k + 1)) (drop (k + 1) rest), length-drop (k + 1) rest)

pub returns-in_err-end_line-clause-served : goal.returns-in_err-end_line-clause-served
returns-in_err-end_line-clause-served g c told first old before is served =
    let rest = c.loop-place.rest.now in
    let k = c.in-Some.place in
    let cut = cut_at_feed rest c.memchr.result k c.in-Some.is c.memchr.ensures in
    let front = c.loop-place.invariant.0 in
    let so = c.loop-place.invariant.3 told first old before is served in
    let kept = IsServed-text c.loop-place.kept.items c.keep.new.kept.items c.loop-place.pending.items (told ++ front) (take k rest) first so.0 before (g.W.Write.contents c.loop-place.writer) cut.one c.keep.ensures so.2 in
    let stop = c.in_err-end_line.ensures.served ((told ++ front) ++ take k rest) first so.0 before so.1 kept in
    let p = err_from_is_err_and c.from_residual.result c.from_residual.ensures.1 in
    rw (p.1, p.2) (
      stop.0,
      stop.1,
      (stop.2.0, stops_in_piece told c.args.piece.now front rest k first stop.0 before (g.W.Write.contents c.end_line.new.writer) c.loop-place.invariant.1 cut stop.2.1),
    )

pub returns-in_err-end_line-clause-becomes : goal.returns-in_err-end_line-clause-becomes
returns-in_err-end_line-clause-becomes g c =
    g.met.E.Serve.becomes_later c.args.engine.now c.loop-place.engine c.end_line.new.engine c.loop-place.invariant.2 c.end_line.ensures.becomes

pub loop-place-preserved : goal.loop-place-preserved
loop-place-preserved g c =
    let rest = c.loop-place.rest.now in
    let k = c.in-Some.place in
    let cut = cut_at_feed rest c.memchr.result k c.in-Some.is c.memchr.ensures in
    let front = c.loop-place.invariant.0 in
    let there : take (length rest - (k + 1)) (drop (k + 1) rest) ≡ drop (k + 1) rest = take_all (length rest - (k + 1)) (drop (k + 1) rest) (omega (arith, length-drop (k + 1) rest)) in (
      front ++ (take k rest ++ LINE_FEED ∷ []),
      after_line c.args.piece.now front rest k c.loop-place.invariant.1 cut ∙ ap (λ l. (front ++ (take k rest ++ LINE_FEED ∷ [])) ++ l) (sym there),
      g.met.E.Serve.becomes_later c.args.engine.now c.loop-place.engine c.end_line.new.engine c.loop-place.invariant.2 c.end_line.ensures.becomes,
      λ told first old before is served.
          let so = c.loop-place.invariant.3 told first old before is served in
          let kept = IsServed-text c.loop-place.kept.items c.keep.new.kept.items c.loop-place.pending.items (told ++ front) (take k rest) first so.0 before (g.W.Write.contents c.loop-place.writer) cut.one c.keep.ensures so.2 in
          let next = c.in_ok-end_line.ensures.served ((told ++ front) ++ take k rest) first so.0 before so.1 kept in (
            next.0,
            next.1,
            subst (λ t. IsServed c.end_line.new.kept.items c.end_line.new.pending.items t first next.0 before (g.W.Write.contents c.end_line.new.writer)) (told_line told front (take k rest)) next.2,
          ),
    )

pub returns-clause-served : goal.returns-clause-served
returns-clause-served g c told first old before is served =
    let rest = c.loop-place.rest.now in
    let front = c.loop-place.invariant.0 in
    let so = c.loop-place.invariant.3 told first old before is served in (
      so.0,
      so.1,
      subst (λ t. IsServed c.keep-2.new.kept.items c.loop-place.pending.items t first so.0 before (g.W.Write.contents c.loop-place.writer))
          (append_assoc told front rest ∙ ap (λ l. told ++ l) (sym c.loop-place.invariant.1))
          (IsServed-text c.loop-place.kept.items c.keep-2.new.kept.items c.loop-place.pending.items (told ++ front) rest first so.0 before (g.W.Write.contents c.loop-place.writer)
          (no_feed rest c.memchr.result c.in_default.is c.memchr.ensures) c.keep-2.ensures so.2),
    )

pub returns-clause-becomes : goal.returns-clause-becomes
returns-clause-becomes g c = c.loop-place.invariant.2
