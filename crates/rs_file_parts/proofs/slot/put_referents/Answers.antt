-- The slot after the roots.
use Rattle.std.proofs.Common.{subst, arith, rules}
use Rattle.rs_file_parts.specs.Slots.{ChangesDirectory, tree_of, with_referents}
use Rattle.rs_file_parts.proofs.SlotBytes.{referents_put}
use Rattle.rs_file_parts.proofs.slot.put_referents.Goals as goal

pub returns : goal.returns
returns c =
    let tree = c.args.tree.now in
    subst (λ root. ChangesDirectory (with_referents (tree_of root tree.living tree.garbage)) c.args.page.now.bytes c.put_tree_at.new.page) c.number.ensures (record {
      each = λ was is. referents_put c.args.page.now.bytes c.put_tree_at.new.page 2832 (search rules) was is (tree_of c.number.result tree.living tree.garbage) (omega arith) c.put_tree_at.ensures;
    })
