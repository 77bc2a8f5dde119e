-- There are as many records as are counted.
use Rattle.std.proofs.Common.{sym}
use Rattle.rs_records.proofs.RecordLists.{length-records}
use Rattle.rs_records.proofs.cells.Cells.len.Goals as goal

pub returns : goal.returns
returns c = let s = c.args.self.now in sym (length-records s.count s.width s.bytes.items)
