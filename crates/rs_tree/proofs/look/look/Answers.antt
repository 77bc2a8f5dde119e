-- Where no page is lent, none of a tree's has the number.
use Rattle.std.proofs.Common.{◌≡◌}
use Rattle.rs_refusal.specs.declared.refusal.Refusal.TheVariants as refusal
use Rattle.rs_tree.proofs.Loading.{no_fit-no_node}
use Rattle.rs_tree.proofs.look.look.Goals as goal

pub returns-in-Err-clause-damaged : goal.returns-in-Err-clause-damaged
returns-in-Err-clause-damaged g c = λ is tied some.
    let why : c.in-Err.refusal ≡ refusal.DamagedFile = cc is in
    no_fit-no_node _ _ _ (c.in-Err.ensures.refused.damaged tied why)
