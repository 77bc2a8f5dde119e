-- One cell after the other of those between the places.
use Rattle.std.proofs.Common.{◌≤◌, ◌+◌, ◌∙◌, arith}
use Rattle.rs_records.specs.Records.{records}
use Rattle.rs_records.specs.Listed.{listed}
use Rattle.rs_records.proofs.RecordLists.{length-keys, times_upto}
use Rattle.rs_tree.specs.Content.{content}
use Rattle.rs_tree.proofs.Collecting.{filter_next, filter_none, collected}
use Rattle.rs_tree.proofs.collect.collect.Goals as goal

pub loop-index-init : goal.loop-index-init
loop-index-init g c = record {
  width = c.requires.width;
  ends = omega arith;
  found = λ test computes. filter_none (λ cell. test (g.S.Summary.of cell)) (records c.args.count c.args.layout.width c.content-bytes.result.now) c.place-from.result (listed c.args.cells.now);
}

pub record_at-cell-requires : goal.record_at-cell-requires
record_at-cell-requires g c =
    let inside : c.place-to.result ≤ c.args.count = omega (arith, c.place-to.ensures.within, length-keys 0 c.args.count c.args.layout.width c.content-bytes.result.now) in
    omega (arith, times_upto (c.loop-index.index + 1) c.args.count c.args.layout.width (omega arith))

pub loop-index-preserved : goal.loop-index-preserved
loop-index-preserved g c =
    let inside : c.place-to.result ≤ c.args.count = omega (arith, c.place-to.ensures.within, length-keys 0 c.args.count c.args.layout.width c.content-bytes.result.now) in
    record {
      width = c.in_ok-push_if.ensures.width ∙ c.loop-index.invariant.width;
      ends = omega arith;
      found = λ test computes.
          filter_next (λ cell. test (g.S.Summary.of cell)) (records c.args.count c.args.layout.width c.content-bytes.result.now) c.place-from.result c.loop-index.index
          c.record_at-cell.result.now (listed c.args.cells.now) (listed c.loop-index.cells) (listed c.push_if.new.cells) c.loop-index.auto.index
          (c.record_at-cell.ensures.one c.args.count (omega arith)) (c.loop-index.invariant.found test computes) (c.in_ok-push_if.ensures.pushed test computes);
    }

pub returns-clause-found : goal.returns-clause-found
returns-clause-found g c = λ test computes up.
    collected c.args.low.now c.args.high.now (λ cell. test (g.S.Summary.of cell)) c.args.count c.args.layout.width c.content-bytes.result.now (content c.args.page.now.bytes)
    c.place-from.result c.place-to.result c.loop-index.index (listed c.args.cells.now) (listed c.loop-index.cells) c.content-bytes.ensures.bytes up
    c.place-from.ensures c.place-to.ensures c.loop-index.invariant.ends c.loop-index.auto.index (omega arith) (c.loop-index.invariant.found test computes)
