use Rattle.std.proofs.Common.{sym, ap, ◌∙◌}
use Rattle.std.specs.List.{list_any}
use Rattle.rs_machine.specs.Opening.{piece_on}
use Rattle.rs_catalog.specs.Names.{entries_by_bytes}
use Rattle.rs_catalog.proofs.UseLaws.{some_aligned, some_piece-entries, aligned_found, aligned_passed}
use Rattle.rs_catalog.proofs.catalog.Catalog.is_route_aligned.Goals as goal

pub returns-then-some_piece_on : goal.returns-then-some_piece_on
returns-then-some_piece_on c =
    aligned_found c.args.route.now.bytes c.into_iter-alignment-iterator.result c.loop-alignment.alignment-iterator c.next.new.self c.in-Some.field-0-0.now c.in-Some.alignment.now c.loop-alignment.invariant c.in-Some.ensures.steps
    (c.if-some_piece_on.ensures ∙ ap (list_any (piece_on c.args.route.now.bytes)) c.pieces.ensures)
    ∙ sym (some_piece-entries c.args.route.now.bytes c.args.self.now c.into_iter-alignment-iterator.result
    (ap (entries_by_bytes (λ alignment. alignment)) c.into_iter-alignment-iterator.ensures.into_iter_gives ∙ c.alignments-alignment-items.ensures))

pub loop-alignment-preserved : goal.loop-alignment-preserved
loop-alignment-preserved c =
    aligned_passed c.args.route.now.bytes c.into_iter-alignment-iterator.result c.loop-alignment.alignment-iterator c.next.new.self c.in-Some.field-0-0.now c.in-Some.alignment.now c.loop-alignment.invariant c.in-Some.ensures.steps
    (c.if-some_piece_on.ensures ∙ ap (list_any (piece_on c.args.route.now.bytes)) c.pieces.ensures)

pub returns : goal.returns
returns c =
    ap (some_aligned c.args.route.now.bytes) (sym c.in-None.ensures.steps.0) ∙ c.loop-alignment.invariant
    ∙ sym (some_piece-entries c.args.route.now.bytes c.args.self.now c.into_iter-alignment-iterator.result
    (ap (entries_by_bytes (λ alignment. alignment)) c.into_iter-alignment-iterator.ensures.into_iter_gives ∙ c.alignments-alignment-items.ensures))
