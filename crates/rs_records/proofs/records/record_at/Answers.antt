-- The record is the bytes at its place.
use Rattle.std.proofs.Common.{◌≡◌, ◌+◌, ◌-◌, ◌*◌, Some, take, drop, ap, ◌∙◌, arith}
use Rattle.rs_records.proofs.RecordLists.{records-at}
use Rattle.rs_records.proofs.records.record_at.Goals as goal

pub returns-clause-one : goal.returns-clause-one
returns-clause-one c = λ count below.
    let size : c.args.width ≡ c.args.index * c.args.width + c.args.width - c.args.index * c.args.width = omega arith in
    records-at count c.args.width c.args.bytes.now c.args.index below ∙ ap (λ n. Some (take n (drop (c.args.index * c.args.width) c.args.bytes.now))) size
