-- The bytes of the records from a place on, copied to the front.
use Rattle.std.proofs.Common.{◌-◌, ◌*◌, refl}
use Rattle.rs_records.proofs.RecordLists.{copied_records}
use Rattle.rs_records.proofs.records.copy_tail.Goals as goal

pub returns : goal.returns
returns c = rw c.copy_from_slice.ensures.after (copied_records c.args.width c.args.count c.args.at (c.args.count * c.args.width - c.args.at * c.args.width) c.args.bytes.now _ c.requires.part c.requires.fit refl)
