-- One alignment after another.
use Rattle.std.proofs.Common.{◌∙◌, ap}
use Rattle.std.specs.FinMap as names
use Rattle.rs_catalog.specs.Names.{entries_by_bytes}
use Rattle.rs_dump.proofs.Fitting.{goes_all, goes_first, goes_next, stops_next}
use Rattle.rs_dump.proofs.Stops.{passed_on}
use Rattle.rs_dump.proofs.alignments.write_alignments.Goals as goal

pub loop-name-init : goal.loop-name-init
loop-name-init g c =
    goes_first (names.entries c.args.catalog.now.alignments) (entries_by_bytes (λ pieces. pieces) c.into_iter-name-iterator.result) c.new-left_out.result.items (g.W.Write.contents c.args.output.now)
    (ap (entries_by_bytes (λ pieces. pieces)) c.into_iter-name-iterator.ensures.into_iter_gives ∙ c.alignments-name-items.ensures) c.new-left_out.ensures.items

pub loop-name-preserved : goal.loop-name-preserved
loop-name-preserved g c =
    goes_next (names.entries c.args.catalog.now.alignments) (entries_by_bytes (λ pieces. pieces) c.loop-name.name-iterator) (entries_by_bytes (λ pieces. pieces) c.next.new.self)
    (c.in-Some.name.now.bytes, c.in-Some.alignment.now) c.loop-name.left_out.items c.write_alignment.new.left_out.items (g.W.Write.contents c.args.output.now) (g.W.Write.contents c.loop-name.output)
    (g.W.Write.contents c.write_alignment.new.output) (ap (entries_by_bytes (λ pieces. pieces)) c.in-Some.ensures.steps) c.loop-name.invariant c.in_ok-write_alignment.ensures

pub returns-clause-lines : goal.returns-clause-lines
returns-clause-lines g c =
    (goes_all (names.entries c.args.catalog.now.alignments) (entries_by_bytes (λ pieces. pieces) c.loop-name.name-iterator) c.loop-name.left_out.items (g.W.Write.contents c.args.output.now)
    (g.W.Write.contents c.loop-name.output) c.loop-name.invariant (ap (entries_by_bytes (λ pieces. pieces)) c.in-None.ensures.steps.0)).0

pub returns-clause-left : goal.returns-clause-left
returns-clause-left g c =
    (goes_all (names.entries c.args.catalog.now.alignments) (entries_by_bytes (λ pieces. pieces) c.loop-name.name-iterator) c.loop-name.left_out.items (g.W.Write.contents c.args.output.now)
    (g.W.Write.contents c.loop-name.output) c.loop-name.invariant (ap (entries_by_bytes (λ pieces. pieces)) c.in-None.ensures.steps.0)).1

pub returns-in_err-write_alignment-clause-lines : goal.returns-in_err-write_alignment-clause-lines
returns-in_err-write_alignment-clause-lines g c =
    let stop = c.in_err-write_alignment.field-0.0 in
    passed_on c.from_residual.result stop _ _ c.from_residual.ensures.1 (
      c.in_err-write_alignment.ensures.0,
      stops_next (names.entries c.args.catalog.now.alignments) (entries_by_bytes (λ pieces. pieces) c.loop-name.name-iterator) (entries_by_bytes (λ pieces. pieces) c.next.new.self)
          (c.in-Some.name.now.bytes, c.in-Some.alignment.now) c.loop-name.left_out.items stop (g.W.Write.contents c.args.output.now) (g.W.Write.contents c.loop-name.output)
          (g.W.Write.contents c.write_alignment.new.output) (ap (entries_by_bytes (λ pieces. pieces)) c.in-Some.ensures.steps) c.loop-name.invariant c.in_err-write_alignment.ensures.1,
    )
