-- Its three numbers come one after another.
use Rattle.rs_file_parts.specs.Slots.{tree_of}
use Rattle.rs_file_parts.proofs.SlotBytes.{tree_at}
use Rattle.rs_file_parts.proofs.slot.put_tree_at.Goals as goal

pub returns : goal.returns
returns c =
    tree_at c.args.at c.to_be_bytes.result c.to_be_bytes-2.result c.to_be_bytes-3.result c.args.page.now c.put_bytes.new.page c.put_bytes-2.new.page c.put_bytes-3.new.page
    (tree_of c.args.root c.args.living c.args.garbage) (c.ranges.root.fits, c.to_be_bytes.ensures) (c.ranges.living.fits, c.to_be_bytes-2.ensures) (c.ranges.garbage.fits, c.to_be_bytes-3.ensures)
    c.put_bytes.ensures c.put_bytes-2.ensures c.put_bytes-3.ensures c.requires
