-- The bytes of one more record come last.
use Rattle.std.proofs.Common.{◌≡◌, ◌+◌, ◌*◌, ap, ◌∙◌, arith}
use Rattle.std.specs.Vec.{vec_len}
use Rattle.rs_records.specs.Records.{records}
use Rattle.rs_records.proofs.RecordLists.{records-push}
use Rattle.rs_records.proofs.cells.Cells.push.Goals as goal

pub returns-clause-pushed : goal.returns-clause-pushed
returns-clause-pushed c =
    let s = c.args.self.now in
    let whole : vec_len s.bytes ≡ s.count * s.width = s.whole in
    ap (records (s.count + 1) s.width) c.in_ok-extend_from_slice.ensures.items
    ∙ records-push s.count s.width s.bytes.items c.args.cell.now (omega (arith, s.bytes.ok.0, whole)) c.requires
