-- What was copied has these records.
use Rattle.std.proofs.Common.{◌≡◌, ◌*◌, ◌++◌, ◌∙◌, ap, arith, take}
use Rattle.rs_records.proofs.RecordLists.{records-take}
use Rattle.rs_records.specs.Records.{records}
use Rattle.rs_records.proofs.cells.Cells.copied.Goals as goal

pub returns-clause-records : goal.returns-clause-records
returns-clause-records c =
    let size = c.args.count * c.args.width in
    let all : c.extend_from_slice.new.self.items ≡ take size c.args.bytes.now =
    c.in_ok-extend_from_slice.ensures.items ∙ ap (λ t. t ++ take size c.args.bytes.now) c.in_ok-copy.ensures.items in
    ap (records c.args.count c.args.width) all ∙ records-take c.args.count c.args.width size c.args.bytes.now (omega arith)
