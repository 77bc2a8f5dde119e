-- The slot of the index's number.
use Rattle.std.proofs.Common.{◌+◌, ◌*◌, arith, rules}
use Rattle.rs_file_parts.proofs.SlotBytes.{root_put}
use Rattle.rs_file_parts.proofs.slot.put_root.Goals as goal

pub returns-clause-puts : goal.returns-clause-puts
returns-clause-puts c = record { each = λ was is. root_put c.args.page.now.bytes c.put_root_at.new.page (2576 + c.args.number * 4) (search rules) was is c.args.number c.args.root c.requires (omega arith) c.put_root_at.ensures }

pub returns-clause-fits : goal.returns-clause-fits
returns-clause-fits c = c.put_root_at.ensures.said.0
