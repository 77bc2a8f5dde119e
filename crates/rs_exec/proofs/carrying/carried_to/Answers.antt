use Rattle.std.proofs.Common.{◌+◌, map, drop, subst}
use Rattle.rs_facts.specs.Spans.{seen}
use Rattle.rs_exec.proofs.Gathering.{Gathers, gathers-none, gathers-more, gathers-all}
use Rattle.rs_exec.proofs.Lists.{more, end}
use Rattle.rs_exec.proofs.carrying.carried_to.Goals as goal

pub loop-piece-init : goal.loop-piece-init
loop-piece-init c = gathers-none c.args.sources.now c.args.number c.new-gathered.result.items c.requires.can.forwards c.new-gathered.ensures.items

pub carry_piece-requires-clause-forwards : goal.carry_piece-requires-clause-forwards
carry_piece-requires-clause-forwards c =
    (subst (λ pieces. Gathers c.args.sources.now c.args.number pieces (map seen c.loop-piece.gathered.items))
    (more c.args.sources.now.pieces.now c.loop-piece.piece-index c.piece-item.result c.loop-piece-test.true c.piece-item.is) c.loop-piece.invariant).forwards.0

pub loop-piece-preserved : goal.loop-piece-preserved
loop-piece-preserved c =
    gathers-more c.args.sources.now c.args.number (drop c.loop-piece.piece-index c.args.sources.now.pieces.now) (drop (c.loop-piece.piece-index + 1) c.args.sources.now.pieces.now) c.piece-item.result
    (map seen c.loop-piece.gathered.items) (map seen c.carry_piece.new.gathered.items) c.loop-piece.invariant
    (more c.args.sources.now.pieces.now c.loop-piece.piece-index c.piece-item.result c.loop-piece-test.true c.piece-item.is) c.in_ok-carry_piece.ensures

pub runs-requires : goal.runs-requires
runs-requires c = record { placed = c.loop-piece.invariant.placed }

pub returns : goal.returns
returns c =
    gathers-all c.args.sources.now c.args.number (drop c.loop-piece.piece-index c.args.sources.now.pieces.now) (map seen c.loop-piece.gathered.items) c.runs.result
    (end c.args.sources.now.pieces.now c.loop-piece.piece-index c.loop-piece-test.false) c.loop-piece.invariant c.runs.ensures.runs c.runs.ensures.placed c.runs.ensures.same
