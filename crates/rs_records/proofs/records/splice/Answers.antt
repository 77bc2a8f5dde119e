-- What the two copies leave.
use Rattle.std.proofs.Common.{◌+◌, ◌-◌, ◌*◌, length, arith}
use Rattle.rs_records.proofs.RecordLists.{spliced}
use Rattle.rs_records.proofs.records.splice.Goals as goal

pub returns : goal.returns
returns c = λ more whole.
    spliced c.args.width c.args.count c.args.at c.args.removed more c.args.bytes.now c.args.added.now c.shift.new.bytes c.copy_from_slice.new.self
    (c.args.at * c.args.width + length c.args.added.now - c.args.at * c.args.width)
    c.requires.part c.requires.fit c.requires.room whole (omega arith) c.shift.ensures c.copy_from_slice.ensures.after
