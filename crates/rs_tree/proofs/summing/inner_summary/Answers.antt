-- One child after the other.
use Rattle.std.proofs.Common.{◌≡◌, ◌≤◌, ◌+◌, ◌*◌, Some, length, slice_get, ap, sym, ◌∙◌, subst, arith}
use Rattle.std.proofs.lemmas.List.{take_all}
use Rattle.std.specs.List.{AllZip, flat_map}
use Rattle.rs_records.specs.Records.{records}
use Rattle.rs_records.proofs.RecordLists.{length-records, times_upto}
use Rattle.rs_tree.specs.Content.{SaysChild}
use Rattle.rs_tree.specs.Form.{joined}
use Rattle.rs_tree.proofs.Lists.{zip_lengths}
use Rattle.rs_tree.specs.Layouts.{entry_bytes}
use Rattle.rs_tree.proofs.Joining.{joined_child}
use Rattle.rs_tree.proofs.summing.inner_summary.Goals as goal
use Rattle.rs_tree.specs.Forms.{form_in}

pub record_at-requires : goal.record_at-requires
record_at-requires g c =
    let same : (c.loop-index.index + 1) * c.entry_width-width.result ≡ (c.loop-index.index + 1) * entry_bytes c.args.layout = ap (λ w. (c.loop-index.index + 1) * w) c.entry_width-width.ensures.width in
    omega (arith, same, times_upto (c.loop-index.index + 1) c.args.count (entry_bytes c.args.layout) (omega arith), c.requires.fit, c.content-bytes.ensures.size)

pub loop-index-preserved : goal.loop-index-preserved
loop-index-preserved g c = λ children says.
    let rs = records c.args.count (entry_bytes c.args.layout) c.content-bytes.result.now in
    let there : slice_get rs c.loop-index.index ≡ Some c.record_at.result.now =
    subst (λ w. slice_get (records c.args.count w c.content-bytes.result.now) c.loop-index.index ≡ Some c.record_at.result.now) c.entry_width-width.ensures.width (c.record_at.ensures.one c.args.count c.loop-index-test.true) in
    c.join-whole.ensures
    ∙ joined_child g.S.Summary.unit g.S.Summary.join g.S.Summary.of g.met.S.Summary.join_assoc g.met.S.Summary.unit_first g.met.S.Summary.unit_last g.S.Summary.says c.args.layout.summary c.args.layout.width
    rs children c.loop-index.index c.record_at.result.now c.loop-index.whole c.read.result says there
    (λ s is. c.read.ensures s (subst (λ bytes. g.S.Summary.says bytes s) (sym c.summary.ensures.bytes) is)) (c.loop-index.invariant children says)

pub returns : goal.returns
returns g c = λ children says.
    let form = form_in g.S.Summary c.args.layout in
    let here = subst (λ bytes. AllZip (SaysChild form) (records c.args.count (entry_bytes c.args.layout) bytes) children) (sym c.content-bytes.ensures.bytes) says in
    let count = zip_lengths (SaysChild form) (records c.args.count (entry_bytes c.args.layout) c.content-bytes.result.now) children here in
    let all : length children ≤ c.loop-index.index = omega (arith, count, length-records c.args.count (entry_bytes c.args.layout) c.content-bytes.result.now) in
    c.loop-index.invariant children here ∙ ap (λ cs. joined g.S.Summary.unit g.S.Summary.join g.S.Summary.of (flat_map (λ child. child.cells) cs)) (take_all c.loop-index.index children all)
