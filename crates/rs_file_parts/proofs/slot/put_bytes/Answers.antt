-- A part of the page is written over.
use Rattle.std.proofs.Common.{◌+◌, ◌-◌, length, arith}
use Rattle.rs_file_parts.proofs.Overwritten.{put_is}
use Rattle.rs_file_parts.proofs.slot.put_bytes.Goals as goal

pub returns : goal.returns
returns c = put_is c.args.at (c.args.at + length c.args.part.now - c.args.at) c.args.page.now c.copy_from_slice.new.self c.args.part.now c.copy_from_slice.ensures.after (omega arith)
