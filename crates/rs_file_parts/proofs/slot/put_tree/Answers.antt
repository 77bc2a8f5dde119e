-- The slot of the table's number.
use Rattle.std.proofs.Common.{◌+◌, ◌*◌, subst, arith, rules}
use Rattle.rs_file_parts.specs.Slots.{ChangesDirectory, tree_of, with_tree}
use Rattle.rs_file_parts.proofs.SlotBytes.{tree_put}
use Rattle.rs_file_parts.proofs.slot.put_tree.Goals as goal

pub returns : goal.returns
returns c =
    let tree = c.args.tree.now in
    subst (λ root. ChangesDirectory (with_tree c.args.number (tree_of root tree.living tree.garbage)) c.args.page.now.bytes c.put_tree_at.new.page) c.number.ensures (record {
      each = λ was is. tree_put c.args.page.now.bytes c.put_tree_at.new.page (16 + c.args.number * 20) (search rules) was is c.args.number (tree_of c.number.result tree.living tree.garbage) c.requires (omega arith) c.put_tree_at.ensures;
    })
