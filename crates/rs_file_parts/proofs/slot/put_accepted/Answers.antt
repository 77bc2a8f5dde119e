-- The slot after the referents.
use Rattle.std.proofs.Common.{arith, rules}
use Rattle.rs_file_parts.proofs.SlotBytes.{accepted_put}
use Rattle.rs_file_parts.proofs.slot.put_accepted.Goals as goal

pub returns : goal.returns
returns c = record { each = λ was is. accepted_put c.args.page.now.bytes c.put_version_at.new.page 2852 (search rules) was is c.args.version (omega arith) c.put_version_at.ensures }
