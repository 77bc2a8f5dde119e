-- The record is among those that are counted.
use Rattle.std.proofs.Common.{◌≡◌, ◌<◌, ◌*◌, ◌+◌, Some, arith, slice_get, subst, List, ℕ}
use Rattle.std.specs.Vec.{vec_len}
use Rattle.rs_records.specs.Records.{records}
use Rattle.rs_records.proofs.RecordLists.{length-records, times_upto}
use Rattle.rs_records.proofs.cells.Cells.get.Goals as goal

pub record_at-requires : goal.record_at-requires
record_at-requires c =
    let s = c.args.self.now in
    let below : c.args.index < s.count = omega (arith, length-records s.count s.width s.bytes.items, c.requires) in
    let whole : vec_len s.bytes ≡ s.count * s.width = s.whole in
    omega (arith, times_upto (c.args.index + 1) s.count s.width (omega arith), c.deref.ensures.len, whole)

pub returns : goal.returns
returns c =
    let s = c.args.self.now in
    let below : c.args.index < s.count = omega (arith, length-records s.count s.width s.bytes.items, c.requires) in
    let P : List ℕ → Type 0 = λ bytes. slice_get (records s.count s.width bytes) c.args.index ≡ Some c.record_at.result.now in
    subst P c.deref.ensures.value (c.record_at.ensures.one s.count below)
