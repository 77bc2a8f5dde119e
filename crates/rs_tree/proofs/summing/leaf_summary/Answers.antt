-- One cell after the other.
use Rattle.std.proofs.Common.{◌≤◌, ◌+◌, length, ap, ◌∙◌, arith}
use Rattle.std.proofs.lemmas.List.{take_all}
use Rattle.rs_records.specs.Records.{records}
use Rattle.rs_records.proofs.RecordLists.{length-records, times_upto}
use Rattle.rs_tree.specs.Form.{joined}
use Rattle.rs_tree.proofs.Joining.{joined_next}
use Rattle.rs_tree.proofs.summing.leaf_summary.Goals as goal

pub record_at-requires : goal.record_at-requires
record_at-requires g c =
    omega (arith, times_upto (c.loop-index.index + 1) c.args.count c.args.layout.width (omega arith), c.requires, c.content-bytes.ensures.size)

pub loop-index-preserved : goal.loop-index-preserved
loop-index-preserved g c =
    c.join-whole.ensures ∙ ap (g.S.Summary.join c.loop-index.whole) c.of.ensures
    ∙ joined_next g.S.Summary.unit g.S.Summary.join g.S.Summary.of g.met.S.Summary.join_assoc g.met.S.Summary.unit_first g.met.S.Summary.unit_last
    (records c.args.count c.args.layout.width c.content-bytes.result.now) c.loop-index.index c.record_at.result.now c.loop-index.whole
    (c.record_at.ensures.one c.args.count c.loop-index-test.true) c.loop-index.invariant

pub returns : goal.returns
returns g c =
    let rs = records c.args.count c.args.layout.width c.content-bytes.result.now in
    let all : length rs ≤ c.loop-index.index = omega (arith, length-records c.args.count c.args.layout.width c.content-bytes.result.now) in
    c.loop-index.invariant ∙ ap (joined g.S.Summary.unit g.S.Summary.join g.S.Summary.of) (take_all c.loop-index.index rs all)
    ∙ ap (λ bytes. joined g.S.Summary.unit g.S.Summary.join g.S.Summary.of (records c.args.count c.args.layout.width bytes)) c.content-bytes.ensures.bytes
