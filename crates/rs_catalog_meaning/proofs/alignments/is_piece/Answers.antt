-- Its routes are those of its numbers, or there are none.
use Rattle.std.proofs.lemmas.Bool.{false≢true}
use Rattle.rs_catalog_meaning.proofs.RouteLaws.{lies_piece, no_first, no_second, piece_lies}
use Rattle.rs_catalog_meaning.proofs.alignments.is_piece.Goals as goal

pub returns-in_default : goal.returns-in_default
returns-in_default c = (
  λ e. absurd (false≢true e),
  λ is. absurd (no_first c.args.routes.now c.args.piece.now c.in_default.ensures.none is),
)

pub returns-in_default-route_with : goal.returns-in_default-route_with
returns-in_default-route_with c = (
  λ e. absurd (false≢true e),
  λ is. absurd (no_second c.args.routes.now c.args.piece.now c.in_default-route_with.ensures.none is),
)

pub returns : goal.returns
returns c =
    let one = c.in-Some.ensures.route in
    let other = c.in-Some-route_with.ensures.route in (
      λ e. piece_lies c.args.routes.now c.args.piece.now c.requires.routes c.in-Some.first.now c.in-Some-route_with.second.now one.0 one.1 other.0 other.1 (c.lies_on.ensures.0 e),
      λ is. c.lies_on.ensures.1
          (lies_piece c.args.routes.now c.args.piece.now c.requires.routes c.in-Some.first.now c.in-Some-route_with.second.now one.0 one.1 other.0 other.1 is),
    )
