use Rattle.std.proofs.Common.{map}
use Rattle.rs_facts.specs.Spans.{seen}
use Rattle.rs_exec.proofs.Gathering.{piece-elsewhere, piece-here}
use Rattle.rs_exec.proofs.carrying.carry_piece.Goals as goal

pub returns-then-piece-number : goal.returns-then-piece-number
returns-then-piece-number c = piece-elsewhere c.args.sources.now c.args.number c.args.piece.now (map seen c.args.gathered.now.items) c.if-piece-number.true

pub returns : goal.returns
returns c =
    piece-here c.args.sources.now c.args.number c.args.piece.now (map seen c.spans_from-spans.result.now) (map seen c.args.gathered.now.items) (map seen c.carry.new.gathered.items)
    c.if-piece-number.false c.spans_from-spans.ensures.means c.spans_from-spans.ensures.placed c.spans_from-spans.ensures.width
    c.in_ok-carry.ensures.means c.in_ok-carry.ensures.placed c.in_ok-carry.ensures.width
